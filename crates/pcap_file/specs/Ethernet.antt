-- The IPv4 bytes of a frame (RFC 894 for Ethernet).
use Rattle.std.specs.Prelude.{ℕ, nat_lt, ◌==◌, ◌||◌, not, if◌then◌else◌, List, length, drop, Option, Some, None}
use Rattle.common.specs.Fields.{field}
use Rattle.pcap_file.specs.declared.capture.Link.{Link}
use Rattle.pcap_file.specs.declared.capture.Link.TheVariants.{Ethernet, Raw}

abbrev pub network_of : Link → List ℕ → Option (List ℕ)
network_of Raw frame = Some frame
network_of Ethernet frame = if nat_lt (length frame) 14 || not (field 12 2 frame == 0x0800) then None else Some (drop 14 frame)

-- The text of each verdict on a record. Checksums are four lower-case hex digits, flags are two, and all other numbers
-- are decimal.
use Rattle.std.specs.Prelude.{ℕ, List, ◌++◌, codes}
use Rattle.std.specs.List.{flat_map}
use Rattle.std.specs.Fmt.{decimal}
use Rattle.common.specs.Text.{hex_digits, end_text}
use Rattle.ipv4.specs.declared.packet.IpFault.{IpFault}
use Rattle.ipv4.specs.declared.packet.IpFault.TheVariants as ip
use Rattle.tcp_segment.specs.declared.segment.TcpFault.{TcpFault}
use Rattle.tcp_segment.specs.declared.segment.TcpFault.TheVariants as tcp
use Rattle.job_core.specs.declared.verdict.Why.{Why}
use Rattle.job_core.specs.declared.verdict.Why.TheVariants.{TooLong, BadHead, NoRule}
use Rattle.job_core.specs.declared.verdict.Verdict.{Verdict}
use Rattle.job_core.specs.declared.verdict.Verdict.TheVariants.{Answered, Held, Ahead, Waiting, LetGo, Asked, Opened, Forwarded, Refused, TurnedAway, Unknown, OtherNumber, BadAck, OtherOpen, PortsTaken, Early, Odd, NotOurs, NotIpv4, SnapCut, BadIp, BadTcp, StoreDown, Crashed, NoInstance, NoMemory}

-- the fault of a packet
abbrev pub ip_fault_text : IpFault → List ℕ
ip_fault_text (ip.Short need have) = codes "short " ++ decimal need ++ codes " " ++ decimal have
ip_fault_text (ip.Version version) = codes "version " ++ decimal version
ip_fault_text (ip.HeaderLength words) = codes "headerlength " ++ decimal words
ip_fault_text (ip.TotalLength total) = codes "totallength " ++ decimal total
ip_fault_text (ip.BadSum kept computed) = codes "sum " ++ hex_digits 4 kept ++ codes " " ++ hex_digits 4 computed
ip_fault_text ip.Fragment = codes "fragment"
ip_fault_text (ip.Protocol protocol) = codes "protocol " ++ decimal protocol

-- the fault of a segment
abbrev pub tcp_fault_text : TcpFault → List ℕ
tcp_fault_text (tcp.Short need have) = codes "short " ++ decimal need ++ codes " " ++ decimal have
tcp_fault_text (tcp.Offset words) = codes "offset " ++ decimal words
tcp_fault_text (tcp.BadSum kept computed) = codes "sum " ++ hex_digits 4 kept ++ codes " " ++ hex_digits 4 computed
tcp_fault_text (tcp.OptionCut at) = codes "option " ++ decimal at

-- why a client's bytes are refused
abbrev pub why_text : Why → List ℕ
why_text TooLong = codes "toolong"
why_text BadHead = codes "badhead"
why_text NoRule = codes "norule"

-- the owners of ports are told by ADDRESS:PORT of the client of each flow
abbrev pub verdict_text : Verdict → List ℕ
verdict_text Answered = codes "answered"
verdict_text (Held end) = codes "held " ++ decimal end
verdict_text (Ahead end offset) = codes "ahead " ++ decimal end ++ codes " " ++ decimal offset
verdict_text Waiting = codes "waiting"
verdict_text LetGo = codes "letgo"
verdict_text (Asked server port) = codes "asked " ++ decimal server ++ codes " " ++ decimal port
verdict_text Opened = codes "opened"
verdict_text Forwarded = codes "forwarded"
verdict_text (Refused why) = codes "refused " ++ why_text why
verdict_text TurnedAway = codes "turnedaway"
verdict_text Unknown = codes "unknown"
verdict_text (OtherNumber n) = codes "othernumber " ++ decimal n
verdict_text (BadAck n) = codes "badack " ++ decimal n
verdict_text (OtherOpen n) = codes "otheropen " ++ decimal n
verdict_text (PortsTaken owners) = codes "portstaken" ++ flat_map (λ flow. codes " " ++ end_text flow.address flow.port) owners
verdict_text Early = codes "early"
verdict_text (Odd flags) = codes "odd " ++ hex_digits 2 flags
verdict_text NotOurs = codes "notours"
verdict_text NotIpv4 = codes "notipv4"
verdict_text SnapCut = codes "snapcut"
verdict_text (BadIp fault) = codes "badip " ++ ip_fault_text fault
verdict_text (BadTcp fault) = codes "badtcp " ++ tcp_fault_text fault
verdict_text StoreDown = codes "storedown"
verdict_text Crashed = codes "crashed"
verdict_text NoInstance = codes "noinstance"
verdict_text (NoMemory calls) = codes "nomemory " ++ decimal calls

-- What a worker is fed: the numbers of the records that its instance handles.
use Rattle.std.specs.Prelude.{ℕ, ◌+◌, List, [], ◌∷◌, ◌++◌}
use Rattle.bench.specs.declared.input.inputs.Inputs.{Inputs}
use Rattle.pcap_file.specs.declared.capture.Frame.{Frame}
use Rattle.run_threads.specs.Served.{is_work, if_counts}

-- .. of these records, whose numbers begin with n
abbrev pub own_numbers : Inputs → ℕ → ℕ → List Frame → List ℕ
own_numbers inputs worker n [] = []
own_numbers inputs worker n (frame ∷ frames) = if_counts (is_work inputs worker n frame) n ++ own_numbers inputs worker (n + 1) frames

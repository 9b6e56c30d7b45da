-- Bytes that are read as a record are the form of that record.
use Rattle.std.proofs.Common.{◌≡◌, ℕ, ◌<◌, List, [], ◌∷◌, ◌++◌, length, drop, get_or, Bool, true, false, suc, zero, ◌≤◌, Result, Ok, Err, Option, Some, None, refl, sym, ap, subst, ◌∙◌, ◌⊎◌, inl, inr, arith}
use Rattle.std.specs.Prelude.{if◌then◌else◌, ◌==◌, ◌&&◌, ◌||◌, not, nat_le, nat_lt, IfOk}
use Rattle.std.proofs.lemmas.Bool.{eqb-true}
use Rattle.std.specs.Int.{byte_at}
use Rattle.byteorder.specs.Endian.{big_number, big_bytes}
use Rattle.common.specs.Fields.{field}
use Rattle.flow_id.specs.Flows.{flow_of}
use Rattle.flow_id.specs.declared.key.Side.{Side}
use Rattle.flow_id.specs.declared.key.Side.TheVariants.{Client, Server}
use Rattle.flow_record.specs.Forms.{side_byte, side_of, fin_of, version_of, extras, extras_of, extras_in, with_extras, has_kind, length_of, form, fields, reading, reading_by}
use Rattle.flow_record.specs.declared.form.RecordFault.{RecordFault}
use Rattle.flow_record.specs.declared.form.RecordFault.TheVariants.{Length, Version, Kind, Value}
use Rattle.flow_record.specs.declared.record.Record.{Record}
use Rattle.flow_record.specs.declared.record.Record.TheVariants.{Syn, Choice, Port, Open, Fin, Gone}

-- the bytes of a number that was read are those that were read
pair : (a b : ℕ) (rest : List ℕ) → a < 256 → b < 256 → big_bytes 2 (big_number 2 (a ∷ b ∷ rest)) ≡ a ∷ b ∷ []
pair a b rest a_fits b_fits =
    let x : ℕ = big_number 2 (a ∷ b ∷ rest) in
    let first : byte_at 1 x ≡ a = omega arith in
    let second : byte_at 0 x ≡ b = omega arith in
    λ i. first i ∷ second i ∷ []

four : (a b c d : ℕ) (rest : List ℕ) → a < 256 → b < 256 → c < 256 → d < 256 → big_bytes 4 (big_number 4 (a ∷ b ∷ c ∷ d ∷ rest)) ≡ a ∷ b ∷ c ∷ d ∷ []
four a b c d rest a_fits b_fits c_fits d_fits =
    let x : ℕ = big_number 4 (a ∷ b ∷ c ∷ d ∷ rest) in
    let first : byte_at 3 x ≡ a = omega arith in
    let second : byte_at 2 x ≡ b = omega arith in
    let third : byte_at 1 x ≡ c = omega arith in
    let last : byte_at 0 x ≡ d = omega arith in
    λ i. first i ∷ second i ∷ third i ∷ last i ∷ []

-- bytes of a form of this version, kind and length
record Begins (bytes : List ℕ) (v k n : ℕ) : Type 0 where
  bytes_fit : (i : ℕ) → get_or bytes i 0 < 256
  version : get_or bytes 0 0 ≡ v
  kind : get_or bytes 1 0 ≡ k
  long : length bytes ≡ n

-- at each kind the fields are read as a record of which the bytes are the form, or not at all
abbrev HasForm : List ℕ → Result Record RecordFault → Type 0
HasForm bytes read = IfOk read (λ r. form r ≡ bytes)

-- ---- what stands behind the fields
-- two bytes stand in version 2 for what they are read as
abbrev StandsFor : ℕ → ℕ → Result (Option ℕ × Bool) RecordFault → Type 0
StandsFor scale sack (Ok e) = (version_of e.0 e.1 ≡ 2) × (extras e.0 e.1 ≡ scale ∷ sack ∷ [])
StandsFor scale sack (Err fault) = Unit {0}

unmarked : (m : ℕ) → nat_lt 1 m ≡ false → (m == 1) ≡ false → m ≡ 0
unmarked m few other = grind arith

neither : (m : ℕ) → nat_lt 1 m ≡ false → (m == 0) ≡ false → (m == 1) ≡ false → ⊥
neither m few some other = grind arith

extras_back : (s m : ℕ) → StandsFor s m (extras_of s m)
extras_back s m = go (nat_lt 14 s && nat_lt s 255) (nat_lt 1 m) (s == 255) (m == 0) (m == 1) refl refl refl refl
  where
    go : (large high none zeroed one : Bool) → nat_lt 1 m ≡ high → (s == 255) ≡ none → (m == 0) ≡ zeroed → (m == 1) ≡ one
        → StandsFor s m (if large then Err (Value s) else if high then Err (Value m) else if none && zeroed then Err (Value m) else Ok (if none then None else Some s, one))
    go true high none zeroed one _ _ _ _ = tt
    go false true none zeroed one _ _ _ _ = tt
    go false false true true one _ _ _ _ = tt
    go false false true false true _ none _ one =
        let no_scale : 255 ≡ s = sym (eqb-true s 255 none) in
        let marked : 1 ≡ m = sym (eqb-true m 1 one) in
        (refl, λ i. no_scale i ∷ marked i ∷ [])
    go false false true false false few _ some other = absurd (neither m few some other)
    go false false false zeroed true _ _ _ one = let marked : 1 ≡ m = sym (eqb-true m 1 one) in (refl, λ i. s ∷ marked i ∷ [])
    go false false false zeroed false few _ _ other = let bare : 0 ≡ m = sym (unmarked m few other) in (refl, λ i. s ∷ bare i ∷ [])

with_back : (bytes : List ℕ) (item : Option ℕ → Bool → Record) (s m : ℕ) (e : Result (Option ℕ × Bool) RecordFault) → StandsFor s m e
    → ((scale : Option ℕ) (sack : Bool) → version_of scale sack ≡ 2 → extras scale sack ≡ s ∷ m ∷ [] → form (item scale sack) ≡ bytes)
    → HasForm bytes (with_extras item e)
with_back bytes item s m (Ok e) stands back = back e.0 e.1 stands.0 stands.1
with_back bytes item s m (Err fault) stands back = tt

-- in version 1 nothing stands there
with_none : (bytes : List ℕ) (item : Option ℕ → Bool → Record) → get_or bytes 0 0 ≡ 1 → form (item None false) ≡ bytes → HasForm bytes (with_extras item (extras_in bytes))
with_none bytes item first back =
    let none : extras_in bytes ≡ Ok (None, false) = ap (λ (v : ℕ). if v == 1 then Ok (None, false) else extras_of (get_or bytes 10 0) (get_or bytes 11 0)) first in
    subst (λ e. HasForm bytes (with_extras item e)) (sym none) back

with_two : (bytes : List ℕ) (item : Option ℕ → Bool → Record) → get_or bytes 0 0 ≡ 2
    → ((scale : Option ℕ) (sack : Bool) → version_of scale sack ≡ 2 → extras scale sack ≡ get_or bytes 10 0 ∷ get_or bytes 11 0 ∷ [] → form (item scale sack) ≡ bytes)
    → HasForm bytes (with_extras item (extras_in bytes))
with_two bytes item first back =
    let s = get_or bytes 10 0 in
    let m = get_or bytes 11 0 in
    let two : extras_in bytes ≡ extras_of s m = ap (λ (v : ℕ). if v == 1 then Ok (None, false) else extras_of s m) first in
    subst (λ e. HasForm bytes (with_extras item e)) (sym two) (with_back bytes item s m (extras_of s m) (extras_back s m) back)

-- ---- the kinds
abbrev syn_of : List ℕ → Option ℕ → Bool → Record
syn_of bytes = Syn (record { 0 = field 2 4 bytes }) (field 6 2 bytes) (field 8 2 bytes)

syn_back : (bytes : List ℕ) → Begins bytes 1 1 10 → form (syn_of bytes None false) ≡ bytes
syn_back (v ∷ k ∷ a ∷ b ∷ c ∷ d ∷ e ∷ f ∷ g ∷ h ∷ []) is =
    let fits = is.bytes_fit in
    let number = four a b c d (e ∷ f ∷ g ∷ h ∷ []) (fits 2) (fits 3) (fits 4) (fits 5) in
    let mss = pair e f (g ∷ h ∷ []) (fits 6) (fits 7) in
    let window = pair g h [] (fits 8) (fits 9) in
    λ i. sym is.version i ∷ sym is.kind i ∷ (number i ++ mss i ++ window i ++ [])
syn_back _ is = absurd (omega arith)

syn_back_two : (bytes : List ℕ) → Begins bytes 2 1 12 → (scale : Option ℕ) (sack : Bool) → version_of scale sack ≡ 2 → extras scale sack ≡ get_or bytes 10 0 ∷ get_or bytes 11 0 ∷ []
    → form (syn_of bytes scale sack) ≡ bytes
syn_back_two (v ∷ k ∷ a ∷ b ∷ c ∷ d ∷ e ∷ f ∷ g ∷ h ∷ s ∷ m ∷ []) is scale sack two rest =
    let fits = is.bytes_fit in
    let number = four a b c d (e ∷ f ∷ g ∷ h ∷ s ∷ m ∷ []) (fits 2) (fits 3) (fits 4) (fits 5) in
    let mss = pair e f (g ∷ h ∷ s ∷ m ∷ []) (fits 6) (fits 7) in
    let window = pair g h (s ∷ m ∷ []) (fits 8) (fits 9) in
    let version : version_of scale sack ≡ v = two ∙ sym is.version in
    λ i. version i ∷ sym is.kind i ∷ (number i ++ mss i ++ window i ++ rest i)
syn_back_two _ is scale sack two rest = absurd (omega arith)

choice_back : (bytes : List ℕ) → Begins bytes 1 2 6 → form (Choice (field 2 2 bytes) (field 4 2 bytes)) ≡ bytes
choice_back (v ∷ k ∷ a ∷ b ∷ c ∷ d ∷ []) is =
    let fits = is.bytes_fit in
    let server = pair a b (c ∷ d ∷ []) (fits 2) (fits 3) in
    let rule = pair c d [] (fits 4) (fits 5) in
    λ i. sym is.version i ∷ sym is.kind i ∷ (server i ++ rule i)
choice_back _ is = absurd (omega arith)

port_back : (bytes : List ℕ) → Begins bytes 1 3 12 → form (Port (flow_of (drop 2 bytes))) ≡ bytes
port_back (v ∷ k ∷ a ∷ b ∷ c ∷ d ∷ e ∷ f ∷ g ∷ h ∷ l ∷ m ∷ []) is =
    let fits = is.bytes_fit in
    let service = pair a b (c ∷ d ∷ e ∷ f ∷ g ∷ h ∷ l ∷ m ∷ []) (fits 2) (fits 3) in
    let address = four c d e f (g ∷ h ∷ l ∷ m ∷ []) (fits 4) (fits 5) (fits 6) (fits 7) in
    let port = pair g h (l ∷ m ∷ []) (fits 8) (fits 9) in
    let life = pair l m [] (fits 10) (fits 11) in
    λ i. sym is.version i ∷ sym is.kind i ∷ (service i ++ address i ++ port i ++ life i)
port_back _ is = absurd (omega arith)

abbrev open_of : List ℕ → Option ℕ → Bool → Record
open_of bytes = Open (field 2 2 bytes) (field 4 2 bytes) (record { 0 = field 6 4 bytes })

open_back : (bytes : List ℕ) → Begins bytes 1 4 10 → form (open_of bytes None false) ≡ bytes
open_back (v ∷ k ∷ a ∷ b ∷ c ∷ d ∷ e ∷ f ∷ g ∷ h ∷ []) is =
    let fits = is.bytes_fit in
    let server = pair a b (c ∷ d ∷ e ∷ f ∷ g ∷ h ∷ []) (fits 2) (fits 3) in
    let port = pair c d (e ∷ f ∷ g ∷ h ∷ []) (fits 4) (fits 5) in
    let number = four e f g h [] (fits 6) (fits 7) (fits 8) (fits 9) in
    λ i. sym is.version i ∷ sym is.kind i ∷ (server i ++ port i ++ number i ++ [])
open_back _ is = absurd (omega arith)

open_back_two : (bytes : List ℕ) → Begins bytes 2 4 12 → (scale : Option ℕ) (sack : Bool) → version_of scale sack ≡ 2 → extras scale sack ≡ get_or bytes 10 0 ∷ get_or bytes 11 0 ∷ []
    → form (open_of bytes scale sack) ≡ bytes
open_back_two (v ∷ k ∷ a ∷ b ∷ c ∷ d ∷ e ∷ f ∷ g ∷ h ∷ s ∷ m ∷ []) is scale sack two rest =
    let fits = is.bytes_fit in
    let server = pair a b (c ∷ d ∷ e ∷ f ∷ g ∷ h ∷ s ∷ m ∷ []) (fits 2) (fits 3) in
    let port = pair c d (e ∷ f ∷ g ∷ h ∷ s ∷ m ∷ []) (fits 4) (fits 5) in
    let number = four e f g h (s ∷ m ∷ []) (fits 6) (fits 7) (fits 8) (fits 9) in
    let version : version_of scale sack ≡ v = two ∙ sym is.version in
    λ i. version i ∷ sym is.kind i ∷ (server i ++ port i ++ number i ++ rest i)
open_back_two _ is scale sack two rest = absurd (omega arith)

fin_back : (bytes : List ℕ) (side : Side) → Begins bytes 1 5 7 → side_byte side ≡ get_or bytes 2 0 → form (Fin side (record { 0 = field 3 4 bytes })) ≡ bytes
fin_back (v ∷ k ∷ s ∷ a ∷ b ∷ c ∷ d ∷ []) side is same =
    let fits = is.bytes_fit in
    let number = four a b c d [] (fits 3) (fits 4) (fits 5) (fits 6) in
    λ i. sym is.version i ∷ sym is.kind i ∷ same i ∷ number i
fin_back _ side is same = absurd (omega arith)

gone_back : (bytes : List ℕ) → Begins bytes 1 6 3 → form (Gone (get_or bytes 2 0)) ≡ bytes
gone_back (v ∷ k ∷ by ∷ []) is = λ i. sym is.version i ∷ sym is.kind i ∷ by ∷ []
gone_back _ is = absurd (omega arith)

fin_has_form : (bytes : List ℕ) (s : ℕ) → Begins bytes 1 5 7 → s ≡ get_or bytes 2 0 → HasForm bytes (fin_of (side_of s) (field 3 4 bytes))
fin_has_form bytes s is here = go (s == 0) (s == 1) refl refl
  where
    go : (a b : Bool) → (s == 0) ≡ a → (s == 1) ≡ b → HasForm bytes (fin_of (if a then Ok Client else if b then Ok Server else Err (Value s)) (field 3 4 bytes))
    go true b client _ = fin_back bytes Client is (sym (eqb-true s 0 client) ∙ here)
    go false true _ server = fin_back bytes Server is (sym (eqb-true s 1 server) ∙ here)
    go false false _ _ = tt

gone_has_form : (bytes : List ℕ) (large : Bool) → Begins bytes 1 6 3 → HasForm bytes (if large then Err (Value (get_or bytes 2 0)) else Ok (Gone (get_or bytes 2 0)))
gone_has_form bytes true is = tt
gone_has_form bytes false is = gone_back bytes is

-- ---- the versions
first_version : (k : ℕ) (bytes : List ℕ) → Begins bytes 1 k (length_of 1 k) → 1 ≤ k → k ≤ 6 → HasForm bytes (fields k bytes)
first_version zero bytes is low high = absurd (omega arith)
first_version (suc zero) bytes is low high = with_none bytes (syn_of bytes) is.version (syn_back bytes is)
first_version (suc (suc zero)) bytes is low high = choice_back bytes is
first_version (suc (suc (suc zero))) bytes is low high = port_back bytes is
first_version (suc (suc (suc (suc zero)))) bytes is low high = with_none bytes (open_of bytes) is.version (open_back bytes is)
first_version (suc (suc (suc (suc (suc zero))))) bytes is low high = fin_has_form bytes (get_or bytes 2 0) is refl
first_version (suc (suc (suc (suc (suc (suc zero)))))) bytes is low high = gone_has_form bytes (nat_lt 2 (get_or bytes 2 0)) is
first_version (suc (suc (suc (suc (suc (suc (suc k))))))) bytes is low high = absurd (omega arith)

second_version : (k : ℕ) (bytes : List ℕ) → Begins bytes 2 k 12 → (k ≡ 1) ⊎ (k ≡ 4) → HasForm bytes (fields k bytes)
second_version k bytes is (inl syn) =
    subst (λ n. Begins bytes 2 n 12 → HasForm bytes (fields n bytes)) (sym syn) (λ b. with_two bytes (syn_of bytes) b.version (syn_back_two bytes b)) is
second_version k bytes is (inr opened) =
    subst (λ n. Begins bytes 2 n 12 → HasForm bytes (fields n bytes)) (sym opened) (λ b. with_two bytes (open_of bytes) b.version (open_back_two bytes b)) is

one_of : (k a b : ℕ) → (k == a || k == b) ≡ true → (k ≡ a) ⊎ (k ≡ b)
one_of k a b is = by (k == a) refl is
  where
    by : (first : Bool) → (k == a) ≡ first → (first || k == b) ≡ true → (k ≡ a) ⊎ (k ≡ b)
    by true here _ = inl (eqb-true k a here)
    by false _ there = inr (eqb-true k b there)

known_kind : (k : ℕ) → (nat_le 1 k && nat_le k 6) ≡ true → (1 ≤ k) × (k ≤ 6)
known_kind k known = grind arith

by_version : (v k : ℕ) (bytes : List ℕ) → (v ≡ 1) ⊎ (v ≡ 2) → has_kind v k ≡ true → Begins bytes v k (length_of v k) → HasForm bytes (fields k bytes)
by_version v k bytes (inl one) =
    subst (λ n. has_kind n k ≡ true → Begins bytes n k (length_of n k) → HasForm bytes (fields k bytes)) (sym one)
    (λ known is. first_version k bytes is (known_kind k known).0 (known_kind k known).1)
by_version v k bytes (inr two) =
    subst (λ n. has_kind n k ≡ true → Begins bytes n k (length_of n k) → HasForm bytes (fields k bytes)) (sym two)
    (λ known is. second_version k bytes is (one_of k 1 4 known))

pub read_is_form : (bytes : List ℕ) → ((i : ℕ) → get_or bytes i 0 < 256) → HasForm bytes (reading bytes)
read_is_form bytes fits = go (nat_lt (length bytes) 2) (version == 1 || version == 2) (has_kind version kind) (length bytes == length_of version kind) refl refl refl
  where
    version : ℕ
    version = get_or bytes 0 0

    kind : ℕ
    kind = get_or bytes 1 0

    go : (short first known long : Bool) → (version == 1 || version == 2) ≡ first → has_kind version kind ≡ known → (length bytes == length_of version kind) ≡ long
        → HasForm bytes (reading_by (if short then Some (Length 2 (length bytes)) else if not first then Some (Version version) else if not known then Some (Kind kind) else if not long then Some (Length (length_of version kind) (length bytes)) else None) bytes)
    go true first known long _ _ _ = tt
    go false false known long _ _ _ = tt
    go false true false long _ _ _ = tt
    go false true true false _ _ _ = tt
    go false true true true first known long =
        by_version version kind bytes (one_of version 1 2 first) known
        (record { bytes_fit = fits; version = refl; kind = refl; long = eqb-true (length bytes) (length_of version kind) long })

-- Contents that grow.
use Rattle.std.proofs.Common.{◌≡◌, ℕ, ◌+◌, List, ◌++◌, length, take, drop, refl, sym, ◌∙◌, ap, arith, append_assoc, length-append}
use Rattle.std.proofs.lemmas.List.{take-append-le}
use Rattle.std.proofs.Math.Seq.{take-append-add, take-add}
use Rattle.std.specs.Prelude.{Option, None, Some}
use Rattle.yoda_app.specs.Written.{longer, AddsPart}

pub longer-longer : (o : Option (List ℕ)) (a b : List ℕ) → longer (longer o a) b ≡ longer o (a ++ b)
longer-longer None a b = refl
longer-longer (Some c) a b = ap Some (append_assoc c a b)

-- a further part
pub adds_on : (o o2 o3 : Option (List ℕ)) (i n : ℕ) (bytes : List ℕ) → o2 ≡ longer o (take i bytes) → o3 ≡ longer o2 (take n (drop i bytes)) → o3 ≡ longer o (take (i + n) bytes)
adds_on o o2 o3 i n bytes first then =
    then ∙ ap (λ p. longer p (take n (drop i bytes))) first ∙ longer-longer o (take i bytes) (take n (drop i bytes)) ∙ ap (longer o) (sym (take-add i n bytes))

-- part of the front is part of the whole
pub adds_front : (o o2 : Option (List ℕ)) (a b : List ℕ) → AddsPart o o2 a → AddsPart o o2 (a ++ b)
adds_front o o2 a b p = record {
  count = p.count;
  within = omega (arith, p.within, length-append a b);
  is = p.is ∙ ap (longer o) (sym (take-append-le p.count a b p.within));
}

-- the front, and part of what follows it
pub adds_back : (o o2 o3 : Option (List ℕ)) (a b : List ℕ) → o2 ≡ longer o a → AddsPart o2 o3 b → AddsPart o o3 (a ++ b)
adds_back o o2 o3 a b front p = record {
  count = length a + p.count;
  within = omega (arith, p.within, length-append a b);
  is = p.is ∙ ap (λ q. longer q (take p.count b)) front ∙ longer-longer o a (take p.count b) ∙ ap (longer o) (sym (take-append-add a b p.count));
}

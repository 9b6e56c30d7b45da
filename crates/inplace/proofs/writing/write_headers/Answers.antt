use Rattle.std.proofs.Common.{◌++◌, length, List, ℕ, drop, ap, sym, subst, ◌∙◌, arith}
use Rattle.std.proofs.lemmas.Slice.{between_to_end}
use Rattle.inplace.specs.Rewriting.{IsFitting}
use Rattle.inplace.proofs.writing.write_headers.Goals as goal

pub returns-clause-ok : goal.returns-clause-ok
returns-clause-ok c = λ body p v fits.
    let n = c.args.data_len in
    let before = c.args.out.now.items in
    let now = c.rewrite-at.new.head in
    let at = c.rewrite-at.result in
    let is : IsFitting c.copy_from_slice.new.self n body p v =
    subst (λ (h : List ℕ). IsFitting h n body p v) (sym c.copy_from_slice.ensures.after) fits in record {
      front = drop at now;
      written = c.in_ok-extend_from_slice.ensures.items ∙ ap (λ (bytes : List ℕ). before ++ bytes) (between_to_end now at (length now) (omega arith));
      whole = c.rewrite-at.ensures.rewritten body p v is;
    }

-- A chain stands where its line stands, and goes on as its line does.
use Rattle.std.proofs.Common.{◌≡◌, List, [], ◌∷◌, ◌++◌, refl, sym, ap, subst, ◌∙◌, append_assoc, append-nil}
use Rattle.std.specs.Prelude.{IsTrue}
use Rattle.life_chain.specs.declared.chain.Chain.{Chain}
use Rattle.life_chain.specs.declared.answer.Answer.{Answer}
use Rattle.life_chain.specs.declared.stage.Stage.{Stage}
use Rattle.life_chain.specs.declared.stage.Stage.TheVariants.{Claiming, Resetting, ClientClosing, ServerClosing, Finding, Settled, Other, Unknown, Spent}
use Rattle.life_chain.specs.Lives.{Line, Stand, stand}
use Rattle.life_chain.specs.Chains.{Stands, Follows, IsSettledSyn, has_syn, now_at, stands_at, syn_at}

-- where a chain stands its line stands
pub stands_now : (chain : Chain) (line : Line) (answers : List Answer) → Stands line answers chain → now_at chain ≡ stand line answers
stands_now chain line answers stands = sym (stands.same []) ∙ ap (stand line) (append-nil answers)

-- a chain that has settled has no answer left
settled_at : (chain : Chain) (stage : Stage) → IsTrue (has_syn stage) → IsSettledSyn (stands_at chain stage []) (syn_at (stands_at chain stage []))
settled_at chain (Claiming own) known = refl
settled_at chain (Resetting own number) known = refl
settled_at chain (ClientClosing own number) known = refl
settled_at chain (ServerClosing own number) known = refl
settled_at chain (Finding before) known = refl
settled_at chain (Settled life syn) known = (refl, refl, known)
settled_at chain (Other number) known = refl
settled_at chain Unknown known = refl
settled_at chain Spent known = refl

pub settled_now : (chain : Chain) (line : Line) (answers : List Answer) → Stands line answers chain → IsSettledSyn (stand line answers) (syn_at (now_at chain))
settled_now chain line answers stands =
    subst (λ (s : Stand). IsSettledSyn s (syn_at (now_at chain))) (stands_now chain line answers stands) (settled_at chain chain.stage stands.syn)

-- a chain that follows stands one answer later
pub goes_on : (old new : Chain) (got : Answer) → Follows old got new
    → (line : Line) (answers : List Answer) → Stands line answers old → Stands line (answers ++ got ∷ []) new
goes_on old new got follows line answers stands = record {
  same = λ more. ap (stand line) (append_assoc answers (got ∷ []) more) ∙ stands.same (got ∷ more) ∙ follows.same more;
  stage = follows.stage line stands.stage;
  syn = follows.syn stands.syn;
}

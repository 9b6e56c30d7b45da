use Rattle.flow_record.proofs.OneForm.{read_is_form}
use Rattle.flow_record.proofs.laws.one_form.Goals as goal

pub returns : goal.returns
returns c = read_is_form c.args.bytes.now (λ i. (c.type_inv.bytes i).fits)

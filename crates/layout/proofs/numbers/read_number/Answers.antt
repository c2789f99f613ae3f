use Rattle.std.proofs.Common.{ap, ◌∙◌, w32, SFits, rules}
use Rattle.std.proofs.lemmas.Int.{to_z-of_z}
use Rattle.layout.specs.Numbers.{signed, within, decided, number_in}
use Rattle.layout.proofs.Steps.{field_fault, field_more}
use Rattle.layout.proofs.Decided.{decides}
use Rattle.layout.proofs.numbers.read_number.Goals as goal

pub returns-in_err-word : goal.returns-in_err-word
unfolding number_in
returns-in_err-word c = field_fault 4 _ c.in_err-word.field-0.0 c.in_err-word.ensures c.from_residual.ensures.1

pub returns : goal.returns
unfolding number_in
returns c =
    let b = c.args.bounds in
    let fits : SFits w32 c.signed.result = search rules in
    let same = ap (decided b c.args.refusal c.args.cursor.now.at) (to_z-of_z w32 c.signed.result fits ∙ c.signed.ensures) in
    decides (within b (signed c.in_ok-word.word)) _ _ (field_more 4 _ c.in_ok-word.word c.in_ok-word.ensures) (c.within.ensures ∙ same)

use Rattle.std.proofs.Common.{◌≡◌, true, false, refl, ap, w32, SFits, rules}
use Rattle.std.proofs.lemmas.Int.{to_z-of_z}
use Rattle.layout.proofs.Steps.{left_all, left_as, last_fault, last_value, read_all}
use Rattle.planfile.specs.Windows.{limit}
use Rattle.planfile.proofs.windows.read_limit.Goals as goal

pub returns-then-not-stands : goal.returns-then-not-stands
unfolding limit
returns-then-not-stands c otherwise =
    let e : c.args.stands ≡ false = search rules in
    read_all _ refl (left_as (ap (λ t. limit c.args.bounds t otherwise) e) (left_all _ c.args.cursor.now))

pub returns-in_err-limit : goal.returns-in_err-limit
unfolding limit
returns-in_err-limit c otherwise =
    let e : c.args.stands ≡ true = search rules in
    last_fault c.in_err-limit.field-0.0 (left_as (ap (λ t. limit c.args.bounds t otherwise) e) (left_all _ c.args.cursor.now)) c.in_err-limit.ensures c.from_residual.ensures.1

pub returns : goal.returns
unfolding limit
returns c otherwise =
    let e : c.args.stands ≡ true = search rules in
    let v = c.in_ok-limit.limit in
    let fits : SFits w32 v = search rules in
    last_value v _ (to_z-of_z w32 v fits) (left_as (ap (λ t. limit c.args.bounds t otherwise) e) (left_all _ c.args.cursor.now)) c.in_ok-limit.ensures

-- Rounds, as the code makes them. Assumes nothing.
use Rattle.std.proofs.Common.{◌≡◌, ℕ, zero, suc, Bool, ◌&&◌, ◌||◌, sym, ap, ◌∙◌, ap₂}
use Rattle.model.specs.declared.state.State.{State}
use Rattle.model.specs.declared.state.State.TheVariants.{Open}
use Rattle.model.specs.Plans.{Hall, Model, cut_by, fallen, unmoved, verdict, judged, round, Rounds}
use Rattle.benches.specs.Halves.{CutBy}
use Rattle.plan.proofs.Changes.{plan}

pub round_made : (l r l' r' : Hall) (t t' : State) (lr rr lf rf : Bool) → l.network.stations ≡ r.network.stations →
    CutBy l r r' rr → CutBy r' l l' lr → lf ≡ fallen l'.table → rf ≡ fallen r'.table → t' ≡ verdict (lf || rf) (lr && rr) →
    plan l' r' t' ≡ round (plan l r t)
unfolding round
round_made l r l' r' t t' lr rr lf rf level first second lfell rfell v =
    let one = first.agree level in
    let two = second.agree (ap (λ (z : Hall). z.network.stations) one.0 ∙ sym level) in
    let now : t' ≡ verdict (fallen l'.table || fallen r'.table) (unmoved l l' && unmoved r r') =
    v ∙ ap₂ verdict (ap₂ ◌||◌ lfell rfell) (ap₂ ◌&&◌ two.1 one.1) in
    ap (plan l' r') now
    ∙ ap (λ (z : Hall). judged (plan l r t) z r') two.0
    ∙ ap (λ (z : Hall). judged (plan l r t) (cut_by l z) z) one.0

pub rounds_more : (k : ℕ) (p q : Model) → Rounds k p q → q.state ≡ Open → Rounds (suc k) p (round q)
rounds_more zero p q e o = (ap (λ (z : Model). z.state) (sym e) ∙ o, ap round e)
rounds_more (suc k) p q r o = (r.0, rounds_more k (round p) q r.1 o)

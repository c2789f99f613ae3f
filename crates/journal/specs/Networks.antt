-- Which networks stand in a plan after a call, and which its reply hands back, as values. Assumes nothing.
use Rattle.std.specs.Prelude.{◌≡◌, List, [], ◌∷◌}
use Rattle.plan.specs.Exchanges.{Back}
use Rattle.plan.specs.Standing.{standing}
use Rattle.journal.specs.declared.calls.Call.{Call}
use Rattle.journal.specs.declared.calls.Call.TheVariants.{ExchangeLeft, ExchangeRight}
use Rattle.journal.specs.declared.replies.Reply.{Reply}
use Rattle.journal.specs.declared.replies.Reply.TheVariants.{ExchangedLeft, ExchangedRight}

-- a call where l and r stood, with its reply: l' and r' stand then. An exchange hands back the network that stood there, or the
-- offered one; no other call has a network come or go
abbrev pub Leaves : {L R : Type 0} → L → R → Call L R → Reply L R → L → R → Type 0
Leaves l r (ExchangeLeft n) (ExchangedLeft y) l' r' = Back l n y × (l' ≡ standing l n y) × (r' ≡ r)
Leaves l r (ExchangeLeft n) _ l' r' = ⊥
Leaves l r (ExchangeRight n) (ExchangedRight y) l' r' = Back r n y × (l' ≡ l) × (r' ≡ standing r n y)
Leaves l r (ExchangeRight n) _ l' r' = ⊥
Leaves l r _ (ExchangedLeft y) l' r' = ⊥
Leaves l r _ (ExchangedRight y) l' r' = ⊥
Leaves l r _ _ l' r' = (l' ≡ l) × (r' ≡ r)

-- the same of calls with their replies, one for each: every call finds the networks that its forerunner left
abbrev pub LeavesAfter : {L R : Type 0} → L → R → List (Call L R) → List (Reply L R) → L → R → Type 0
LeavesAfter l r [] [] l' r' = (l' ≡ l) × (r' ≡ r)
LeavesAfter l r [] (y ∷ ys) l' r' = ⊥
LeavesAfter l r (c ∷ cs) [] l' r' = ⊥
LeavesAfter {L} {R} l r (c ∷ cs) (y ∷ ys) l' r' = (m : L) × (n : R) × Leaves l r c y m n × LeavesAfter m n cs ys l' r'

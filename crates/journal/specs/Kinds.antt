-- Which replies a call can get. Assumes nothing.
use Rattle.std.specs.Prelude.{List, [], ◌∷◌}
use Rattle.journal.specs.declared.calls.Call.{Call}
use Rattle.journal.specs.declared.calls.Call.TheVariants.{Lower, Raise, Loosen, ExchangeLeft, ExchangeRight, Advance, Adopt, ReadState, ReadSlack, ReadWindow, ReadStarts}
use Rattle.journal.specs.declared.replies.Reply.{Reply}
use Rattle.journal.specs.declared.replies.Reply.TheVariants.{Changed, ExchangedLeft, ExchangedRight, Advanced, StateIs, SlackIs, WindowIs, StartsAre}

-- the reply is of the call's own kind, whether the call was accepted or refused
abbrev pub Answers : {L R : Type 0} → Call L R → Reply L R → Type 0
Answers (Lower p v) (Changed y) = Unit {0}
Answers (Raise p v) (Changed y) = Unit {0}
Answers (Loosen p w) (Changed y) = Unit {0}
Answers Adopt (Changed y) = Unit {0}
Answers (ExchangeLeft n) (ExchangedLeft y) = Unit {0}
Answers (ExchangeRight n) (ExchangedRight y) = Unit {0}
Answers (Advance n) (Advanced t k) = Unit {0}
Answers ReadState (StateIs t) = Unit {0}
Answers ReadSlack (SlackIs z) = Unit {0}
Answers (ReadWindow p) (WindowIs y) = Unit {0}
Answers (ReadStarts m n) (StartsAre y) = Unit {0}
Answers _ _ = ⊥

-- the same of each of these calls and the reply in its place, one for each
abbrev pub AnswersEach : {L R : Type 0} → List (Call L R) → List (Reply L R) → Type 0
AnswersEach [] [] = Unit {0}
AnswersEach [] (y ∷ ys) = ⊥
AnswersEach (c ∷ cs) [] = ⊥
AnswersEach (c ∷ cs) (y ∷ ys) = Answers c y × AnswersEach cs ys

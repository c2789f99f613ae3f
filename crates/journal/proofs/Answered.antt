-- Kinds of replies over whole lists of calls. Assumes nothing.
use Rattle.std.proofs.Common.{List, [], ◌∷◌, ◌++◌}
use Rattle.journal.specs.declared.calls.Call.{Call}
use Rattle.journal.specs.declared.replies.Reply.{Reply}
use Rattle.journal.specs.Kinds.{Answers, AnswersEach}

pub answers_more : {L R : Type 0} (cs : List (Call L R)) (ys : List (Reply L R)) (c : Call L R) (y : Reply L R) → AnswersEach cs ys → Answers c y →
    AnswersEach (cs ++ (c ∷ [])) (ys ++ (y ∷ []))
answers_more [] [] c y h k = (k, tt)
answers_more [] (z ∷ ys) c y h k = absurd h
answers_more (d ∷ cs) [] c y h k = absurd h
answers_more (d ∷ cs) (z ∷ ys) c y h k = (h.0, answers_more cs ys c y h.1 k)

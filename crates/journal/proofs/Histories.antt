-- Whole lists of calls. Assumes nothing.
use Rattle.std.proofs.Common.{◌≡◌, List, [], ◌∷◌, ◌++◌, length, sym, refl, subst, arith, length-append}
use Rattle.scale.specs.Algebra.{Algebra, LawfulScale}
use Rattle.network.specs.Networks.{Meaning, LawfulNetwork}
use Rattle.model.specs.declared.bench.Window.{Window}
use Rattle.model.specs.Plans.{Model}
use Rattle.model.specs.Calls.{Founded}
use Rattle.model.specs.Runs.{Call, Reply, History, found, ◌then◌, Run, founds}
use Rattle.model.proofs.Stands.{law_stands}
use Rattle.journal.specs.Journals.{after, Stepped, Replayed, Holds}

after_push : (h : History) (cs : List Call) (rs : List Reply) (c : Call) (r : Reply) → length rs ≡ length cs →
    after h (cs ++ (c ∷ [])) (rs ++ (r ∷ [])) ≡ (after h cs rs then (c, r))
after_push h [] [] c r e = refl
after_push h [] (u ∷ rs) c r e = absurd (omega arith)
after_push h (d ∷ cs) [] c r e = absurd (omega arith)
after_push h (d ∷ cs) (u ∷ rs) c r e = after_push (h then (d, u)) cs rs c r (omega arith)

pub replay_none : (σ : Algebra) (p : Model) → Replayed σ p [] [] p
replay_none σ p = record { each = refl; leads = λ h run. run }

pub replay_more : (σ : Algebra) (p q q' : Model) (cs : List Call) (rs : List Reply) (c : Call) (r : Reply) → Replayed σ p cs rs q → Stepped σ q c r q' →
    Replayed σ p (cs ++ (c ∷ [])) (rs ++ (r ∷ [])) q'
replay_more σ p q q' cs rs c r k s = record {
  each = let e = k.each in simp length-append (omega arith);
  leads = λ h run. subst (λ z. Run σ z q') (sym (after_push h cs rs c r k.each)) (s (after h cs rs) (k.leads h run));
}

-- the law over a plan from its founding on
pub replayed : (σ : Algebra) → LawfulScale σ → (l r : Meaning) (lws rws : List Window) (p q : Model) (cs : List Call) (rs : List Reply) → LawfulNetwork σ l → LawfulNetwork σ r →
    Founded σ l r lws rws p → Replayed σ p cs rs q → Holds σ (after (found l r lws rws) cs rs) q
replayed σ ok l r lws rws p q cs rs ll lr f re =
    let run = re.leads (found l r lws rws) (founds l r lws rws p ll lr f) in
    record { run = run; law = law_stands σ ok _ q run }

-- Plans over whole runs of calls, and what is promised of them. Assumes nothing.
use Rattle.std.specs.Prelude.{◌≡◌, ℕ, ◌↔◌, List, ℤ, pos, ◌<ℤ◌}
use Rattle.scale.specs.Algebra.{Algebra, LawfulScale}
use Rattle.network.specs.Networks.{Meaning, LawfulNetwork}
use Rattle.network.specs.Checks.{Answer, accepted, refused, Checked}
use Rattle.model.specs.declared.bench.Window.{Window}
use Rattle.model.specs.declared.state.State.{State}
use Rattle.model.specs.declared.state.State.TheVariants.{InStep, Impossible}
use Rattle.model.specs.Plans.{Model, starts, slack}
use Rattle.model.specs.Sheets.{Side, Sheet, new_sheet, own_sheet, window, SomeFits, Greatest, put_ceiling, put_floor, put_both, rewrite_at, put_network, put_ceilings}
use Rattle.model.specs.Calls.{Founded, Lowered, Raised, Loosened, Exchanged, Advanced, Adopted, place_checks, starts_checks, bench_of}

-- ---- calls and what they answer

pub data Reading : Type 0 where
  the_state : Reading
  the_slack : Reading
  the_window : ℕ → ℕ → Reading
  -- into two lists of these lengths
  the_starts : ℕ → ℕ → Reading

pub data Call : Type 0 where
  lower : ℕ → ℕ → ℤ → Call
  raise : ℕ → ℕ → ℤ → Call
  loosen : ℕ → ℕ → ℤ → ℤ → Call
  exchange : Side → Meaning → Call
  advance : ℕ → Call
  adopt : Call
  reading : Reading → Call

pub data Reply : Type 0 where
  done : Reply
  turned_away : ℕ → Reply
  advanced : State → ℕ → Reply
  state_is : State → Reply
  slack_is : ℤ → Reply
  window_is : Window → Reply
  starts_are : List ℤ → List ℤ → Reply

-- a refusal, or what is told where there is none
abbrev pub reply : Answer ℕ → Reply → Reply
reply accepted r = r
reply (refused n) r = turned_away n

-- what a reading of p tells
abbrev pub Read : Model → Reading → Reply → Type 0
Read p the_state r = r ≡ state_is p.state
Read p the_slack r = r ≡ slack_is (slack p)
Read p (the_window s i) r = (a : Answer ℕ) × Checked (place_checks p s i) a × (r ≡ reply a (window_is (window (bench_of p s i))))
Read p (the_starts m n) r = (a : Answer ℕ) × Checked (starts_checks p m n) a × (r ≡ reply a (starts_are (starts p.left.table) (starts p.right.table)))

-- a call on p answers r and leaves q: for each call just what its contract says
abbrev pub Does : Algebra → Model → Call → Reply → Model → Type 0
Does σ p (lower s i v) r q = (a : Answer ℕ) × Lowered σ p s i v a q × (r ≡ reply a done)
Does σ p (raise s i v) r q = (a : Answer ℕ) × Raised σ p s i v a q × (r ≡ reply a done)
Does σ p (loosen s i f c) r q = (a : Answer ℕ) × Loosened σ p s i f c a q × (r ≡ reply a done)
Does σ p (exchange s m) r q = (a : Answer ℕ) × Exchanged p s m a q × (r ≡ reply a done)
Does σ p (advance n) r q = (t : State) × (k : ℕ) × Advanced p n t k q × (r ≡ advanced t k)
Does σ p adopt r q = (a : Answer ℕ) × Adopted p a q × (r ≡ reply a done)
Does σ p (reading x) r q = Read p x r × (q ≡ p)

-- ---- histories: a plan is founded, and then meets with calls, oldest first

infixl 20 ◌then◌
pub data History : Type 0 where
  found : Meaning → Meaning → List Window → List Window → History
  ◌then◌ : History → Call × Reply → History

-- ---- the sheet: each call's arguments, and whether it was turned away, and nothing else from the plan

-- what a call that was not turned away writes; adopt: the greatest list that fits, as ceilings
abbrev pub Takes : Sheet → Call → Sheet → Type 0
Takes s (lower side i v) s' = s' ≡ rewrite_at s side i (put_ceiling v)
Takes s (raise side i v) s' = s' ≡ rewrite_at s side i (put_floor v)
Takes s (loosen side i f c) s' = s' ≡ rewrite_at s side i (put_both f c)
Takes s (exchange side m) s' = s' ≡ put_network s side m
Takes s (advance n) s' = s' ≡ s
Takes s adopt s' = (x : List ℤ) × (y : List ℤ) × Greatest s x y × (s' ≡ put_ceilings s x y)
Takes s (reading x) s' = s' ≡ s

abbrev pub Writes : Sheet → Call → Reply → Sheet → Type 0
Writes s c done s' = Takes s c s'
Writes s c (turned_away n) s' = s' ≡ s
Writes s c (advanced t k) s' = Takes s c s'
Writes s c (state_is t) s' = Takes s c s'
Writes s c (slack_is z) s' = Takes s c s'
Writes s c (window_is w) s' = Takes s c s'
Writes s c (starts_are x y) s' = Takes s c s'

abbrev pub SheetOf : History → Sheet → Type 0
SheetOf (found l r lws rws) s = s ≡ new_sheet l r lws rws
SheetOf (h then e) s' = (s : Sheet) × SheetOf h s × Writes s e.0 e.1 s'

-- ---- runs: every call finds the plan as its forerunner left it. Networks keep the law

abbrev pub Offers : Algebra → Call → Type 0
Offers σ (lower s i v) = Unit {0}
Offers σ (raise s i v) = Unit {0}
Offers σ (loosen s i f c) = Unit {0}
Offers σ (exchange s m) = LawfulNetwork σ m
Offers σ (advance n) = Unit {0}
Offers σ adopt = Unit {0}
Offers σ (reading x) = Unit {0}

pub data Run (σ : Algebra) : History → Model → Type 0 where
  founds : (l r : Meaning) (lws rws : List Window) (q : Model) → LawfulNetwork σ l → LawfulNetwork σ r →
      Founded σ l r lws rws q → Run σ (found l r lws rws) q
  goes_on : (h : History) (p q : Model) (c : Call) (r : Reply) → Run σ h p → Offers σ c → Does σ p c r q → Run σ (h then (c, r)) q

-- the last call but for readings was an advance that was granted more rounds than the slack before it
abbrev pub Enough : Model → Call → Type 0 → Type 0
Enough p (lower s i v) before = ⊥
Enough p (raise s i v) before = ⊥
Enough p (loosen s i f c) before = ⊥
Enough p (exchange s m) before = ⊥
Enough p (advance n) before = slack p <ℤ pos n
Enough p adopt before = ⊥
Enough p (reading x) before = before

abbrev pub Granted : {σ : Algebra} {h : History} {p : Model} → Run σ h p → Type 0
Granted (founds l r lws rws q ll lr f) = ⊥
Granted (goes_on h p q c r run o d) = Enough p c (Granted run)

-- ---- the law

-- what is promised of a plan p after a run, with the sheet s
pub record Stands {σ : Algebra} {h : History} {p : Model} (run : Run σ h p) (s : Sheet) : Type 0 where
  -- the plan's own windows and networks are those on the sheet
  pub windows : own_sheet p ≡ s
  -- (a) in step, its starts fit, and every other list that fits is higher at no bench
  pub in_step_greatest : p.state ≡ InStep → Greatest s (starts p.left.table) (starts p.right.table)
  -- (b) impossible, no list fits
  pub impossible_none : p.state ≡ Impossible → ¬ (SomeFits s)
  -- (c) after enough rounds it is in step exactly when some list fits, and otherwise impossible
  pub decided : Granted run → ((p.state ≡ InStep) ↔ SomeFits s) × (¬ (p.state ≡ InStep) → p.state ≡ Impossible)

-- a run of the history h that leaves p: it has one sheet, and what is promised holds of it
pub record Lawful {σ : Algebra} {h : History} {p : Model} (run : Run σ h p) : Type 0 where
  pub sheet : Sheet
  pub written : SheetOf h sheet
  pub only : (s : Sheet) → SheetOf h s → s ≡ sheet
  pub stands : Stands run sheet

-- over every scale and whatever networks, for every run
abbrev pub Law : Type 0
Law = (σ : Algebra) → LawfulScale σ → (h : History) (p : Model) (run : Run σ h p) → Lawful run

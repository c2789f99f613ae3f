-- Founding a plan, as the code does it. Assumes nothing.
use Rattle.std.proofs.Common.{◌≡◌, ◌≤◌, List, map, length, take, ap, ◌∙◌, ap₂, arith}
use Rattle.std.proofs.lemmas.List.{take_all, length-map}
use Rattle.scale.specs.Algebra.{Algebra, LawfulScale}
use Rattle.network.specs.Networks.{Meaning, LawfulNetwork}
use Rattle.network.specs.Checks.{accepted, Checked}
use Rattle.model.specs.declared.bench.Bench.{Bench}
use Rattle.model.specs.declared.bench.Window.{Window}
use Rattle.model.specs.declared.state.State.TheVariants.{Open}
use Rattle.model.specs.Sheets.{fresh_bench}
use Rattle.model.specs.Calls.{found_checks, Founded}
use Rattle.model.proofs.Accepted.{found_accepted}
use Rattle.plan.proofs.Changes.{plan}

-- all windows, where there are no more than the benches of a network
all_windows : (m : Meaning) (ws : List Window) → m.benches ≤ 32 → length ws ≡ m.benches → map fresh_bench (take 32 ws) ≡ map fresh_bench ws
all_windows m ws few e = ap (map fresh_bench) (take_all 32 ws (omega arith))

pub counted : (m : Meaning) (ws : List Window) (bs : List Bench) → m.benches ≤ 32 → length ws ≡ m.benches → bs ≡ map fresh_bench (take 32 ws) → length bs ≡ m.benches
counted m ws bs few e f = ap (λ (z : List Bench). length z) (f ∙ all_windows m ws few e) ∙ length-map ws fresh_bench ∙ e

pub founded : (σ : Algebra) → LawfulScale σ → (l r : Meaning) → LawfulNetwork σ l → LawfulNetwork σ r → (lws rws : List Window) (ls rs : List Bench) →
    Checked (found_checks σ l r lws rws) accepted → ls ≡ map fresh_bench (take 32 lws) → rs ≡ map fresh_bench (take 32 rws) → Founded σ l r lws rws (plan (record { network = l; table = ls }) (record { network = r; table = rs }) Open)
founded σ ok l r ll lr lws rws ls rs h e f =
    let a = found_accepted σ ok l r lws rws h in
    record {
      checks = h;
      fresh_start = ap₂ (λ (x y : List Bench). plan (record { network = l; table = x }) (record { network = r; table = y }) Open) (e ∙ all_windows l lws ll.benches_size.few a.lefts) (f ∙ all_windows r rws lr.benches_size.few a.rights);
    }

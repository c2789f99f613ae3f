use Rattle.std.proofs.Common.{◌≡◌, ℕ, ◌<◌, Bool, cond, Ok, sym, refl, ap, ◌∙◌, ap₂, unwrap_or, w32, SFits, rules}
use Rattle.std.proofs.lemmas.Int.{to_z-of_z}
use Rattle.std.proofs.lemmas.Bool.{lt-ltb, le-ltb, cond-true}
use lib.Signed.{le_z}
use Rattle.network.specs.declared.refusal.Refusal.TheVariants.{Bit}
use Rattle.layout.specs.declared.bounds.Bounds.{Bounds}
use Rattle.layout.specs.declared.cursor.Cursor.{Cursor}
use Rattle.layout.specs.Faults.{fault}
use Rattle.layout.specs.Layouts.{fails, number}
use Rattle.layout.specs.Reading.{Reads}
use Rattle.layout.proofs.Steps.{Left, field_fault, field_more, left_as, left_fault, left_more, read_fault}
use Rattle.layout.proofs.Decided.{decides}
use Rattle.planfile.specs.Windows.{has_floor, has_ceiling, in_order, limits_of, window_of}
use Rattle.planfile.proofs.windows.read_window.Goals as goal

-- behind the map, the limits that stand are left
limits : (b : Bounds) (c c' : Cursor) (m : ℕ) (floor ceiling : Bool) → m < 4 → floor ≡ has_floor m → ceiling ≡ has_ceiling m →
    Reads (number 1) c c' (λ v. v) (Ok m) → Left (window_of b) c (limits_of b c.at floor ceiling) c'
unfolding window_of
limits b c c' m floor ceiling l f t h =
    left_as (cond-true _ _ _ (lt-ltb m 4 l) ∙ ap₂ (limits_of b c.at) (sym f) (sym t)) (field_more 1 _ m h)

pub returns-in_err-map : goal.returns-in_err-map
unfolding window_of
returns-in_err-map c = field_fault 1 _ c.in_err-map.field-0.0 c.in_err-map.ensures c.from_residual.ensures.1

pub returns-then-map-ge4 : goal.returns-then-map-ge4
unfolding window_of
returns-then-map-ge4 c =
    let p = c.args.cursor.now.at in
    let m = c.in_ok-map.map in
    let known = ap (λ t. cond t (limits_of c.args.bounds p (has_floor m) (has_ceiling m)) (fails (fault Bit p))) (le-ltb m 4 c.if-map-ge4.true) in
    read_fault (left_as known (field_more 1 _ m c.in_ok-map.ensures))

pub returns-in_err-floor : goal.returns-in_err-floor
unfolding limits_of
returns-in_err-floor c =
    let b = c.args.bounds in
    let m = c.in_ok-map.map in
    let first = limits b c.args.cursor.now c.byte.new.self m c.floor_stands.result (has_ceiling m) c.if-map-ge4.false c.floor_stands.ensures refl c.in_ok-map.ensures in
    left_fault _ c.in_err-floor.field-0.0 first (c.in_err-floor.ensures b.least) c.from_residual-in_err-floor.ensures.1

pub returns-in_err-ceiling : goal.returns-in_err-ceiling
unfolding limits_of
returns-in_err-ceiling c =
    let b = c.args.bounds in
    let m = c.in_ok-map.map in
    let first = limits b c.args.cursor.now c.byte.new.self m c.floor_stands.result c.ceiling_stands.result c.if-map-ge4.false c.floor_stands.ensures c.ceiling_stands.ensures c.in_ok-map.ensures in
    let second = left_more _ c.in_ok-floor.floor first (c.in_ok-floor.ensures b.least) in
    left_fault _ c.in_err-ceiling.field-0.0 second (c.in_err-ceiling.ensures b.greatest) c.from_residual-in_err-ceiling.ensures.1

pub returns : goal.returns
unfolding limits_of
returns c =
    let b = c.args.bounds in
    let m = c.in_ok-map.map in
    let first = limits b c.args.cursor.now c.byte.new.self m c.floor_stands.result c.ceiling_stands.result c.if-map-ge4.false c.floor_stands.ensures c.ceiling_stands.ensures c.in_ok-map.ensures in
    let second = left_more _ c.in_ok-floor.floor first (c.in_ok-floor.ensures b.least) in
    let third = left_more _ c.in_ok-ceiling.ceiling second (c.in_ok-ceiling.ensures b.greatest) in
    let low : SFits w32 c.floor_or_least.result = search rules in
    let high : SFits w32 c.ceiling_or_greatest.result = search rules in
    let same = ap₂ (λ f t. in_order f t c.args.cursor.now.at) (to_z-of_z w32 c.floor_or_least.result low ∙ c.floor_or_least.ensures) (to_z-of_z w32 c.ceiling_or_greatest.result high ∙ c.ceiling_or_greatest.ensures) in
    decides (le_z (unwrap_or c.in_ok-floor.floor b.least) (unwrap_or c.in_ok-ceiling.ceiling b.greatest)) _ _ third (c.in_order.ensures ∙ same)

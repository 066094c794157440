-- Two lists of sub-steps, alike but for the fluxes: where the second's fluxes are no less, its nodes rank above, but for 2·K·M / 2 ^ 49.
use Rattle.std.specs.Prelude.{ℕ, suc, ◌<◌, ◌≤◌, ◌≡◌, refl, List, [], ◌∷◌, map, length, get_or, Float}
use Rattle.std.proofs.Common.{ap}
use Rattle.std.proofs.lemmas.List.{length-map}
use Rattle.std.specs.Float.{nan}
use Rattle.fraction.specs.Fraction.{nat, pow2, ◌+F◌, ◌-F◌, ◌*F◌, ◌/F◌, ◌≤F◌, ◌within◌}
use Rattle.fraction.proofs.Certificate.{quote}
use Rattle.fraction.proofs.Certificate.{le_by, up, hi, lo, ◌⊞◌}
use Rattle.fraction.proofs.Order.{≤F-refl}
use Rattle.binary64.specs.Value.{val}
use Rattle.diffusion.specs.Premises.{ProfileInRange}
use Rattle.diffusion.specs.Run.{Grid, Move, run, exact_run, Both, AllReady, Stronger}
use Rattle.diffusion.proofs.Ordered.{ordered_run}
use Rattle.diffusion.specs.RunLaws.{share, bound}
use Rattle.diffusion.proofs.RunLaws.{run_near}

pub both_length : {A : Type 0} {R : A → A → Type 0} {xs ys : List A} → Both R xs ys → length xs ≡ length ys
both_length Both.none = refl
both_length (Both.more r rs) = ap suc (both_length rs)

-- RANKING: from one profile the second list's nodes are nowhere more than 2·K·M / 2 ^ 49 below the first's
pub ranking : (b : Grid) {ms ms' : List Move} (c : List Float) → Both Stronger ms ms' → AllReady b ms → AllReady b ms' → ProfileInRange b.n (val b.c_max) c → (i : ℕ) → i < b.n
    → val (get_or (run b ms c) i nan) ≤F val (get_or (run b ms' c) i nan) +F nat 2 *F nat (length ms) *F val b.c_max /F pow2 49
ranking b {ms} {ms'} c a rs rs' w i l =
    let x = val (get_or (run b ms c) i nan) in
    let y = val (get_or (run b ms' c) i nan) in
    let X = get_or (exact_run b ms (map val c)) i (nat 0) in
    let Y = get_or (exact_run b ms' (map val c)) i (nat 0) in
    let long : b.n ≤ length (map val c) = rw (length-map c val) w.long in
    let h : X ≤F Y = (ordered_run b a rs (record { long = long; long' = long; below = λ i l. ≤F-refl })).below i l in
    let p : x -F X within bound (length ms) (val b.c_max) = run_near b ms c rs w i l in
    let q : y -F Y within bound (length ms) (val b.c_max) = rw (both_length a) (run_near b ms' c rs' w i l) in
    le_by (x ∷ y ∷ X ∷ Y ∷ nat (length ms) ∷ val b.c_max ∷ share ∷ []) 0 (up h ⊞ hi p ⊞ lo q) (search quote depth 24) tt

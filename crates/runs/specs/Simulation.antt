-- Two runs, of which one simulates the other: where a turn of the first is, seen through a map, a turn of the second, so are k turns, and the slices are the same. Assumes nothing.
use Prim.Native.Nat.{ℕ, zero, suc, ◌*◌}
use Rattle.std.specs.Prelude.{◌≡◌, Bool, true, false, cond, not, ◌&&◌, List, eqb, get_or, Float}
use Rattle.std.proofs.Math.Path.{refl}
use Rattle.std.specs.Float.{nan}
use Rattle.std.proofs.Common.{eqb-true}
use Rattle.array_update.specs.ArrayUpdate.{places_by}
use Rattle.runs.specs.Rows.{run_after, rows_after}
use Rattle.runs.specs.Endings.{by_refusal}

-- a run by states S, one by states R, and the map; P holds of the first's states
module _ {S R : Type 0} (over : S → ℕ) (turned : S → S) (row : S → List Float) (over' : R → ℕ) (turned' : R → R) (row' : R → List Float) (see : S → R) (P : S → Type 0) where
  pub record Simulates : Type 0 where
    pub same_over : (s : S) → over' (see s) ≡ over s
    pub same_row : (s : S) → row' (see s) ≡ row s
    pub turn : (s : S) → P s → over s ≡ 0 → see (turned s) ≡ turned' (see s)
    pub keeps : (s : S) → P s → over s ≡ 0 → P (turned s)

  module _ (sim : Simulates) where
    once : (s : S) (b : Bool) → eqb (over s) 0 ≡ b → P s → (see (cond b (turned s) s) ≡ cond b (turned' (see s)) (see s)) × P (cond b (turned s) s)
    once s true e p = (sim.turn s p (eqb-true (over s) 0 e), sim.keeps s p (eqb-true (over s) 0 e))
    once s false e p = (refl, p)

    next : (s : S) (r : R) → see s ≡ r → P s
        → (see (cond (eqb (over s) 0) (turned s) s) ≡ cond (eqb (over' r) 0) (turned' r) r) × P (cond (eqb (over s) 0) (turned s) s)
    next s r e p = rw (← e, sim.same_over s) (once s (eqb (over s) 0) refl p)

    -- k turns of the first, seen, are k turns of the second
    pub after_seen : (k : ℕ) (s : S) → P s → (see (run_after over turned row k s) ≡ run_after over' turned' row' k (see s)) × P (run_after over turned row k s)
    unfolding run_after
    after_seen zero s p = (refl, p)
    after_seen (suc k) s p = next (run_after over turned row k s) (run_after over' turned' row' k (see s)) (after_seen k s p).0 (after_seen k s p).1

    row_next : (k : ℕ) (a b : S) (a' b' : R) (x x' : List Float) → see a ≡ a' → see b ≡ b' → x ≡ x'
        → cond (eqb (over a) 0 && not (eqb (over b) by_refusal)) (places_by (k * 8) 8 (λ j. get_or (row b) j nan) x) x
        ≡ cond (eqb (over' a') 0 && not (eqb (over' b') by_refusal)) (places_by (k * 8) 8 (λ j. get_or (row' b') j nan) x') x'
    row_next k a b a' b' x x' e f h = rw (← e, ← f, sim.same_over a, sim.same_over b, sim.same_row b, h)

    -- and they leave the same slice
    pub rows_seen : (k : ℕ) (s : S) (out : List Float) → P s → rows_after over turned row k s out ≡ rows_after over' turned' row' k (see s) out
    unfolding rows_after
    rows_seen zero s out p = refl
    rows_seen (suc k) s out p =
        row_next k (run_after over turned row k s) (run_after over turned row (suc k) s) (run_after over' turned' row' k (see s)) (run_after over' turned' row' (suc k) (see s))
        (rows_after over turned row k s out) (rows_after over' turned' row' k (see s) out)
        (after_seen k s p).0 (after_seen (suc k) s p).0 (rows_seen k s out p)

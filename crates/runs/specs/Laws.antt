-- Laws of a run's turns: a run that is over stays so, what each turn keeps the run keeps, and how each turn goes on or ends. Assumes nothing.
use Prim.Native.Nat.{ℕ, zero, suc, ◌+◌, ◌-◌, ◌*◌, ◌≤◌, ◌<◌}
use Rattle.std.specs.Prelude.{◌≡◌, Bool, cond, List, length, get_or, Float}
use Rattle.std.proofs.Math.Path.{refl, sym}
use Rattle.std.proofs.Common.{◌∙◌, add-suc}
use Rattle.std.proofs.Math.Bool.{true, false}
use native.Mathlib.Omega.{arith}
use Rattle.std.proofs.Math.Nat.{add-zero}
use Rattle.std.proofs.Math.Numerals.{add-one}
use Rattle.std.proofs.Math.Dec.{eqb}
use Rattle.std.specs.Float.{nan}
use borrow.Author.Tests.{eqb-true, eq-eqb, ne_eqb}
use Rattle.array_update.specs.ArrayUpdate.{places_by}
use Rattle.runs.specs.Rows.{run_after, rows_after}
use Rattle.runs.specs.Endings.{by_refusal}

module _ {S : Type 0} (over : S → ℕ) (turned : S → S) (row : S → List Float) (s : S) where
  abbrev after : ℕ → S
  after k = run_after over turned row k s

  abbrev rows : ℕ → List Float → List Float
  rows k l = rows_after over turned row k s l

  pub run_more : (k : ℕ) → over (after k) ≡ 0 → after (k + 1) ≡ turned (after k)
  unfolding run_after
  run_more k h = rw (add-one, eq-eqb _ _ h)

  -- once over, a run stays as it is
  pub run_stays : (k d : ℕ) → (over (after k) ≡ 0 → ⊥) → after (k + d) ≡ after k
  unfolding run_after
  run_stays k zero h = rw add-zero
  run_stays k (suc d) h = rw (add-suc, run_stays k d h, ne_eqb _ _ h)

  -- what each turn keeps, the run keeps
  pub run_keeps : (P : S → Type 0) → ((x : S) → over x ≡ 0 → P x → P (turned x)) → P s → (k : ℕ) → P (after k)
  unfolding run_after
  run_keeps P f p zero = p
  run_keeps P f p (suc k) = go (eqb (over (after k)) 0) refl (run_keeps P f p k)
    where
      go : (b : Bool) → eqb (over (after k)) 0 ≡ b → P (after k) → P (cond b (turned (after k)) (after k))
      go true e q = f (after k) (eqb-true _ _ e) q
      go false e q = q

  pub rows_stay : (k d : ℕ) (l : List Float) → (over (after k) ≡ 0 → ⊥) → rows (k + d) l ≡ rows k l
  unfolding rows_after
  rows_stay k zero l h = rw add-zero
  rows_stay k (suc d) l h = rw (add-suc, run_stays k d h, ne_eqb _ _ h) (rows_stay k d l h)

  pub rows_more : (k : ℕ) (l : List Float) → over (after k) ≡ 0 → (over (after (k + 1)) ≡ by_refusal → ⊥)
      → rows (k + 1) l ≡ places_by (k * 8) 8 (λ j. get_or (row (after (k + 1))) j nan) (rows k l)
  unfolding rows_after
  rows_more k l h g =
      let g' : over (after (suc k)) ≡ by_refusal → ⊥ = rw add-one at g in
      rw (add-one, eq-eqb _ _ h, ne_eqb _ _ g')

  pub rows_refused : (k : ℕ) (l : List Float) → over (after k) ≡ 0 → over (after (k + 1)) ≡ by_refusal → rows (k + 1) l ≡ rows k l
  unfolding rows_after
  rows_refused k l h g =
      let g' : over (after (suc k)) ≡ by_refusal = rw add-one at g in
      rw (add-one, eq-eqb _ _ h, eq-eqb _ _ g')

  -- i turns are made and the run goes on
  pub record Going (out₀ : List Float) (total : ℕ) (out : List Float) (x : S) (i : ℕ) : Type 0 where
    pub within : i ≤ total
    pub state : x ≡ after i
    pub on : over x ≡ 0
    pub places : out ≡ rows i out₀
    pub long : length out ≡ length out₀

  -- the run has stopped with this state and this slice
  abbrev pub Stopped : List Float → ℕ → S → List Float → Type 0
  Stopped out₀ total x out = (x ≡ after total) × (out ≡ rows total out₀)

  -- a run that is over before its first turn
  pub over_at_once : (out₀ : List Float) (total : ℕ) → (over s ≡ 0 → ⊥) → Stopped out₀ total s out₀
  unfolding run_after rows_after
  over_at_once out₀ total h = (sym (rw zero_plus at (run_stays 0 total h)), sym (rw zero_plus at (rows_stay 0 total out₀ h)))
    where
      zero_plus : 0 + total ≡ total
      zero_plus = omega arith

  module _ (out₀ : List Float) (total : ℕ) (out : List Float) (x : S) (i : ℕ) (g : Going out₀ total out x i) where
    on_at : over (after i) ≡ 0
    on_at = rw g.state at g.on

    next : (x' : S) → x' ≡ turned x → x' ≡ after (i + 1)
    next x' e = rw (e, run_more i on_at, g.state)

    -- the slice after a row
    row_put : (x' : S) (r out' : List Float) → x' ≡ turned x → (over x' ≡ by_refusal → ⊥) → r ≡ row x'
        → out' ≡ places_by (i * 8) 8 (λ j. get_or r j nan) out → out' ≡ rows (i + 1) out₀
    row_put x' r out' e h q o =
        let h' : over (after (i + 1)) ≡ by_refusal → ⊥ = rw (next x' e) at h in
        rw (rows_more i out₀ on_at h', o, q, next x' e, g.places)

    -- over after i + 1 turns, over after all
    settled : i < total → (over (after (i + 1)) ≡ 0 → ⊥) → (after total ≡ after (i + 1)) × (rows total out₀ ≡ rows (i + 1) out₀)
    settled l h =
        let e : i + 1 + (total - (i + 1)) ≡ total = omega arith in
        (rw e at (run_stays (i + 1) (total - (i + 1)) h), rw e at (rows_stay (i + 1) (total - (i + 1)) out₀ h))

    pub going_on : (x' : S) (r out' : List Float) → x' ≡ turned x → (over x' ≡ by_refusal → ⊥) → r ≡ row x'
        → out' ≡ places_by (i * 8) 8 (λ j. get_or r j nan) out → length out' ≡ length out → i < total → over x' ≡ 0 → Going out₀ total out' x' (i + 1)
    going_on x' r out' e h q o n l z =
        record { within = omega arith; state = next x' e; on = z; places = row_put x' r out' e h q o; long = n ∙ g.long }

    pub ends_refused : (x' : S) → x' ≡ turned x → over x' ≡ by_refusal → i < total → Stopped out₀ total x' out
    ends_refused x' e z l =
        let z' : over (after (i + 1)) ≡ by_refusal = rw (next x' e) at z in
        let q = settled l (λ y. absurd (omega (arith, y, z'))) in
        (next x' e ∙ sym q.0, g.places ∙ sym (rows_refused i out₀ on_at z') ∙ sym q.1)

    pub ends_stopped : (x' : S) (r out' : List Float) → x' ≡ turned x → (over x' ≡ by_refusal → ⊥) → r ≡ row x'
        → out' ≡ places_by (i * 8) 8 (λ j. get_or r j nan) out → i < total → (over x' ≡ 0 → ⊥) → Stopped out₀ total x' out'
    ends_stopped x' r out' e h q o l z =
        let w = settled l (rw (next x' e) at z) in
        (next x' e ∙ sym w.0, row_put x' r out' e h q o ∙ sym w.1)

    pub ends_full : total ≤ i → Stopped out₀ total x out
    ends_full l =
        let e : i ≡ total = omega arith in
        (rw e at g.state, rw e at g.places)

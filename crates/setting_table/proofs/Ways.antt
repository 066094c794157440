-- The ways to a name's place. Assumes nothing.
use Rattle.std.proofs.Common.{◌≡◌, ℕ, suc, ◌+◌, ◌-◌, ◌≤◌, Bool, true, false, cond, List, length, take, drop, eqb, arith, sym, ◌∙◌}
use Prim.Native.String.{String}
use Rattle.std.specs.Cmp.Lexicographic.{pointwise}
use Rattle.setting_table.specs.Names.{anode, cathode, none, sheet_count, bytes_of, is_named, place_by, place_of}
use Rattle.plain_text.specs.Pieces.{begins}

pub none_yet : (base : ℕ) (s : List ℕ) → none ≡ place_by (base - base) base s
unfolding place_by
none_yet base s = let e : base - base ≡ 0 = omega arith in rw e

pub next_place : (base i : ℕ) (s : List ℕ) → base ≤ i → place_by (i + 1 - base) base s ≡ cond (is_named s i) i (place_by (i - base) base s)
unfolding place_by
next_place base i s h =
    let q : i + 1 - base ≡ suc (i - base) = omega arith in
    let p : base + (i - base) ≡ i = omega arith in
    rw (q, p)

module _ (s : List ℕ) (r : ℕ) where
  abbrev Begins : String → Bool → Type 0
  Begins p t = pointwise eqb (take (length (bytes_of p)) s) (bytes_of p) ≡ t

  pub place_anode : Begins "anode." true → r ≡ place_by sheet_count anode (drop 6 s) → r ≡ place_of s
  unfolding place_of
  place_anode t q = rw (sym (begins (bytes_of "anode.") s) ∙ t, q)

  pub place-cathode : Begins "anode." false → Begins "cathode." true → r ≡ place_by sheet_count cathode (drop 8 s) → r ≡ place_of s
  unfolding place_of
  place-cathode f t q = rw (sym (begins (bytes_of "anode.") s) ∙ f, sym (begins (bytes_of "cathode.") s) ∙ t, q)

  pub place_run : Begins "anode." false → Begins "cathode." false → r ≡ place_by anode 0 s → r ≡ place_of s
  unfolding place_of
  place_run f g q = rw (sym (begins (bytes_of "anode.") s) ∙ f, sym (begins (bytes_of "cathode.") s) ∙ g, q)

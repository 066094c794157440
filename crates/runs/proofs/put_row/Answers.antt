-- `runs::put_row` meets its contract: a slice with a part replaced is the slice with each place of the part written. Assumes nothing.
use Rattle.std.proofs.Common.{ℕ, ◌+◌, ◌-◌, ◌<◌, ◌≤◌, ◌≡◌, refl, sym, ap, ◌∙◌, arith, rules, Bool, true, false, ltb, List, ◌++◌, length, get_or, take, drop, length-append, length-drop}
use Rattle.std.proofs.lemmas.Bool.{ltb-true, ltb-false}
use Rattle.std.proofs.lemmas.List.{ext_get_or, get_or-take, get_or-drop, get_or-append_right, get_or_append_left, length-take-le}
use Rattle.std.specs.Float.Ieee.{Float, nan}
use Rattle.array_update.specs.ArrayUpdate.{places_by, places_length, places_inside, places_before, places_after}
use borrow.Rule.Slice.PartMut.{Post-is}
use Rattle.runs.proofs.put_row.Goals as goal

module _ (at : ℕ) (row l : List Float) (e : length row ≡ 8) (h : at + 8 ≤ length l) where
  abbrev f : ℕ → Float
  f k = get_or row k nan

  abbrev rest : List Float
  rest = row ++ drop (at + 8) l

  front_length : length (take at l) ≡ at
  front_length = length-take-le at l (omega arith)

  replaced_length : length (take at l ++ rest) ≡ length l
  replaced_length = omega (arith, length-append (take at l) rest, length-append row (drop (at + 8) l), length-drop (at + 8) l, front_length, e)

  -- a place from `at` on: of the row, or past it
  after : (i : ℕ) (b : Bool) → ltb i (at + 8) ≡ b → at ≤ i → get_or (take at l ++ rest) i nan ≡ get_or (places_by at 8 f l) i nan
  after i true z n =
      let m = ltb-true i (at + 8) z in
      let k : at + (i - at) ≡ i = omega arith in
      let j : i - at < 8 = omega arith in
      let s : i - at < length row = omega (arith, e) in
      get_or-append_right (take at l) rest at i nan front_length n ∙ get_or_append_left row (drop (at + 8) l) nan (i - at) s
      ∙ sym (rw k at (places_inside at f l 8 (i - at) nan j h))
  after i false z n =
      let m = ltb-false i (at + 8) z in
      let k : at + 8 + (i - at - 8) ≡ i = omega arith in
      let j : 8 ≤ i - at = omega arith in
      get_or-append_right (take at l) rest at i nan front_length n ∙ get_or-append_right row (drop (at + 8) l) 8 (i - at) nan e j
      ∙ get_or-drop (at + 8) l (i - at - 8) nan ∙ ap (λ (x : ℕ). get_or l x nan) k ∙ sym (places_after at f l 8 i nan m)

  at_place : (i : ℕ) (b : Bool) → ltb i at ≡ b → get_or (take at l ++ rest) i nan ≡ get_or (places_by at 8 f l) i nan
  at_place i true z =
      let m = ltb-true i at z in
      let s : i < length (take at l) = omega (arith, front_length) in
      get_or_append_left (take at l) rest nan i s ∙ get_or-take at l i nan m ∙ sym (places_before at f l 8 i nan m)
  at_place i false z = after i (ltb i (at + 8)) refl (ltb-false i at z)

  replaced : take at l ++ rest ≡ places_by at 8 f l
  replaced = ext_get_or nan (take at l ++ rest) (places_by at 8 f l) (replaced_length ∙ sym (places_length at f l 8)) (λ i m. at_place i (ltb i at) refl)

pub returns : goal.returns
returns c =
    let a = c.args in
    let within : a.at ≤ a.at + 8 = omega arith in
    rw (c.copy_from_slice.ensures.after, Post-is a.at (a.at + 8) a.out.now within) (replaced a.at a.row a.out.now (search rules) c.requires)

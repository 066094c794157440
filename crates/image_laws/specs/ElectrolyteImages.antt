-- An electrolyte's parameters and an electrolyte that are written into an image are read back. Assumes nothing.
use Rattle.std.specs.Prelude.{ℕ, ◌≤◌, ◌<◌, ◌+◌, ◌^◌, ◌≡◌, List}
use Rattle.std.proofs.Math.Path.{refl}
use Rattle.std.proofs.Common.{◌∙◌, inl, arith, lit≤}
use Rattle.std.proofs.Math.ListN.{length, get_or}
use Rattle.std.specs.Float.Ieee.{nan}
use Rattle.codec.specs.Words.{word_at, put_word, float_at, put_row}
use Rattle.electrolyte_parameters.specs.declared.ElectrolyteParams.{ElectrolyteParams}
use Rattle.electrolyte.specs.declared.ElectrolyteState.{ElectrolyteState}
use Rattle.electrolyte_images.specs.Images.{electrolyte_params_at, electrolyte_params_numbers, put_electrolyte_params, electrolyte_at, region_numbers, put_regions, put_electrolyte}
use Rattle.image_laws.specs.Words.{word_written}
use Rattle.image_laws.specs.Encodable.{EncodableRow}
use Rattle.image_laws.specs.Rows.{Writes, SameWords, same_part, same_below, same_float, writes_then, writes_word, writes_places, place_read_back, row_written, row_same}
use Rattle.image_laws.specs.Layout.{Layout}
use Rattle.image_layout.specs.Layout.{electrolyte_regions, electrolyte_nodes_neg, electrolyte_nodes_sep, electrolyte_nodes_pos, electrolyte_profile, electrolyte_params_bytes, electrolyte_bytes}

-- ---- the parameters: eight numbers
pub writes_electrolyte_params : (s : List ℕ) (p : ElectrolyteParams) → Writes 0 electrolyte_regions s (put_electrolyte_params s p)
unfolding put_electrolyte_params
writes_electrolyte_params s p = writes_places 8 s 0 (electrolyte_params_numbers p)

pub electrolyte_params_same : (s s' : List ℕ) → SameWords 0 electrolyte_regions s s' → electrolyte_params_at s' ≡ electrolyte_params_at s
unfolding electrolyte_params_at
electrolyte_params_same s s' p =
    rw (
      same_float p 0 (lit≤ tt) (lit≤ tt),
      same_float p 1 (lit≤ tt) (lit≤ tt),
      same_float p 2 (lit≤ tt) (lit≤ tt),
      same_float p 3 (lit≤ tt) (lit≤ tt),
      same_float p 4 (lit≤ tt) (lit≤ tt),
      same_float p 5 (lit≤ tt) (lit≤ tt),
      same_float p 6 (lit≤ tt) (lit≤ tt),
      same_float p 7 (lit≤ tt) (lit≤ tt),
    )

pub electrolyte_params_read_back : (s : List ℕ) (p : ElectrolyteParams) → electrolyte_params_bytes ≤ length s → EncodableRow (electrolyte_params_numbers p) → electrolyte_params_at (put_electrolyte_params s p) ≡ p
unfolding electrolyte_params_at put_electrolyte_params
electrolyte_params_read_back s p h k =
    let at : (i : ℕ) → i < 8 → float_at (put_row s 0 (electrolyte_params_numbers p)) i ≡ get_or (electrolyte_params_numbers p) i nan = λ i l. place_read_back s 0 (electrolyte_params_numbers p) h k i i l (omega arith) in
    rw (at 0 (lit≤ tt), at 1 (lit≤ tt), at 2 (lit≤ tt), at 3 (lit≤ tt), at 4 (lit≤ tt), at 5 (lit≤ tt), at 6 (lit≤ tt), at 7 (lit≤ tt))

-- ---- an electrolyte: its parameters, six numbers, three counts, 96 places
abbrev pub electrolyte_words : ℕ
electrolyte_words = electrolyte_profile + 96

pub record EncodableElectrolyte (e : ElectrolyteState) : Type 0 where
  pub c_e_of : EncodableRow (electrolyte_params_numbers e.params)
  pub regions : EncodableRow (region_numbers e)
  pub neg : e.n_neg < 2 ^ 64
  pub sep : e.n_sep < 2 ^ 64
  pub pos : e.n_pos < 2 ^ 64
  pub long : length e.c_e ≡ 96
  pub places : EncodableRow e.c_e

module _ (s : List ℕ) (e : ElectrolyteState) (k : EncodableElectrolyte e) where
  abbrev e1 : List ℕ
  e1 = put_electrolyte_params s e.params

  abbrev e2 : List ℕ
  e2 = put_row e1 electrolyte_regions (region_numbers e)

  abbrev e3 : List ℕ
  e3 = put_word e2 electrolyte_nodes_neg e.n_neg

  abbrev e4 : List ℕ
  e4 = put_word e3 electrolyte_nodes_sep e.n_sep

  abbrev e5 : List ℕ
  e5 = put_word e4 electrolyte_nodes_pos e.n_pos

  abbrev e6 : List ℕ
  e6 = put_row e5 electrolyte_profile e.c_e

  v1 : Writes 0 electrolyte_regions s e1
  v1 = writes_electrolyte_params s e.params

  v2 : Writes electrolyte_regions electrolyte_nodes_neg e1 e2
  v2 = writes_places 6 e1 electrolyte_regions (region_numbers e)

  v3 : Writes electrolyte_nodes_neg electrolyte_nodes_sep e2 e3
  v3 = writes_word e2 electrolyte_nodes_neg e.n_neg

  v4 : Writes electrolyte_nodes_sep electrolyte_nodes_pos e3 e4
  v4 = writes_word e3 electrolyte_nodes_sep e.n_sep

  v5 : Writes electrolyte_nodes_pos electrolyte_profile e4 e5
  v5 = writes_word e4 electrolyte_nodes_pos e.n_pos

  v6 : Writes electrolyte_profile electrolyte_words e5 e6
  v6 = let n : electrolyte_words ≡ electrolyte_profile + length e.c_e = rw k.long in rw n (writes_places (length e.c_e) e5 electrolyte_profile e.c_e)

  v36 : Writes electrolyte_nodes_neg electrolyte_words e2 e6
  v36 = writes_then (lit≤ tt) (lit≤ tt) (writes_then (lit≤ tt) (lit≤ tt) (writes_then (lit≤ tt) (lit≤ tt) v3 v4) v5) v6

  pub writes_electrolyte : Writes 0 electrolyte_words s (put_electrolyte s e)
  unfolding put_electrolyte put_regions
  writes_electrolyte = writes_then (lit≤ tt) (lit≤ tt) (writes_then (lit≤ tt) (lit≤ tt) v1 v2) v36

  pub electrolyte_read_back : electrolyte_bytes ≤ length s → electrolyte_at (put_electrolyte s e) ≡ e
  unfolding electrolyte_at put_electrolyte put_regions
  electrolyte_read_back h =
      let l2 : length e2 ≡ length s = v2.size ∙ v1.size in
      let l3 : length e3 ≡ length s = v3.size ∙ l2 in
      let l4 : length e4 ≡ length s = v4.size ∙ l3 in
      let l5 : length e5 ≡ length s = v5.size ∙ l4 in
      let c_e_of : electrolyte_params_at e6 ≡ e.params = electrolyte_params_same e2 e6 (same_below (lit≤ tt) v36) ∙ electrolyte_params_same e1 e2 (same_below (lit≤ tt) v2) ∙ electrolyte_params_read_back s e.params (omega (arith, h)) k.c_e_of in
      let at : (i j : ℕ) → i < 6 → j ≡ electrolyte_regions + i → float_at e6 j ≡ get_or (region_numbers e) i nan =
      λ i j l m. same_float (same_below {a = 0} {b = electrolyte_nodes_neg} (lit≤ tt) v36) j (omega arith) (omega (arith, l, m)) ∙ place_read_back e1 electrolyte_regions (region_numbers e) (rw v1.size (omega (arith, h))) k.regions i j l m in
      let neg : word_at e6 electrolyte_nodes_neg ≡ e.n_neg =
      v6.outside electrolyte_nodes_neg (inl (lit≤ tt)) ∙ v5.outside electrolyte_nodes_neg (inl (lit≤ tt)) ∙ v4.outside electrolyte_nodes_neg (inl (lit≤ tt)) ∙ word_written e2 electrolyte_nodes_neg e.n_neg (rw l2 (omega (arith, h))) k.neg in
      let sep : word_at e6 electrolyte_nodes_sep ≡ e.n_sep = v6.outside electrolyte_nodes_sep (inl (lit≤ tt)) ∙ v5.outside electrolyte_nodes_sep (inl (lit≤ tt)) ∙ word_written e3 electrolyte_nodes_sep e.n_sep (rw l3 (omega (arith, h))) k.sep in
      let pos : word_at e6 electrolyte_nodes_pos ≡ e.n_pos = v6.outside electrolyte_nodes_pos (inl (lit≤ tt)) ∙ word_written e4 electrolyte_nodes_pos e.n_pos (rw l4 (omega (arith, h))) k.pos in
      rw (
        c_e_of,
        at 0 electrolyte_regions (lit≤ tt) refl,
        at 1 (electrolyte_regions + 1) (lit≤ tt) refl,
        at 2 (electrolyte_regions + 2) (lit≤ tt) refl,
        at 3 (electrolyte_regions + 3) (lit≤ tt) refl,
        at 4 (electrolyte_regions + 4) (lit≤ tt) refl,
        at 5 (electrolyte_regions + 5) (lit≤ tt) refl,
        neg,
        sep,
        pos,
        row_written 96 e5 electrolyte_profile e.c_e k.long (rw l5 (omega (arith, h))) k.places,
      )

pub electrolyte_same : (s s' : List ℕ) → SameWords 0 electrolyte_words s s' → electrolyte_at s' ≡ electrolyte_at s
unfolding electrolyte_at
electrolyte_same s s' p =
    rw (
      electrolyte_params_same s s' (same_part (lit≤ tt) (lit≤ tt) p),
      same_float p electrolyte_regions (lit≤ tt) (lit≤ tt),
      same_float p (electrolyte_regions + 1) (lit≤ tt) (lit≤ tt),
      same_float p (electrolyte_regions + 2) (lit≤ tt) (lit≤ tt),
      same_float p (electrolyte_regions + 3) (lit≤ tt) (lit≤ tt),
      same_float p (electrolyte_regions + 4) (lit≤ tt) (lit≤ tt),
      same_float p (electrolyte_regions + 5) (lit≤ tt) (lit≤ tt),
      p.words electrolyte_nodes_neg (lit≤ tt) (lit≤ tt),
      p.words electrolyte_nodes_sep (lit≤ tt) (lit≤ tt),
      p.words electrolyte_nodes_pos (lit≤ tt) (lit≤ tt),
      row_same 96 s s' electrolyte_profile (same_part (lit≤ tt) (lit≤ tt) p),
    )

pub electrolyte_layout : Layout electrolyte_words electrolyte_at put_electrolyte EncodableElectrolyte
electrolyte_layout = record { same = electrolyte_same; writes = writes_electrolyte; read_back = electrolyte_read_back }

-- The parameters, the grid and the cell of the Doyle-Fuller-Newman model that are written into an image are read back. Assumes nothing.
use Rattle.std.specs.Prelude.{ℕ, ◌≤◌, ◌<◌, ◌+◌, ◌^◌, ◌≡◌, List, [], ◌∷◌, T, Float}
use Rattle.std.proofs.Math.Path.{refl}
use Rattle.std.proofs.Common.{◌∙◌, inl, arith, lit≤}
use Rattle.std.proofs.Math.ListN.{length, get_or}
use Rattle.std.specs.Float.Ieee.{nan, fits}
use Rattle.std.specs.Float.{binary64}
use Rattle.codec.specs.Words.{word_at, put_word, float_at, put_float, places_at, put_row}
use Rattle.dfn_parameters.specs.declared.DfnParams.{DfnParams}
use Rattle.dfn_parameters.specs.declared.DfnConfig.{DfnConfig}
use Rattle.dfn.specs.declared.DfnSolver.{DfnSolver}
use Rattle.parameter_images.specs.Images.{params_of, params_at, params_numbers, put_params, config_at, put_config}
use Rattle.dfn_images.specs.Images.{cell_at, put_cell}
use Rattle.image_laws.specs.Words.{word_written, float_written}
use Rattle.image_laws.specs.Encodable.{EncodableRow}
use Rattle.image_laws.specs.Rows.{Writes, SameWords, same_part, same_below, same_float, writes_then, writes_word, writes_float, writes_places, place_read_back, row_written, row_same}
use Rattle.image_laws.specs.Layout.{Layout}
use Rattle.image_layout.specs.Layout.{dfn_cathode, dfn_electrolyte, dfn_clock, dfn_voltage, dfn_current, dfn_theta_neg, dfn_theta_pos, dfn_bytes}

-- ---- parameters: 25 numbers, and for each electrode a count and 16 coefficients
pub record EncodableParams (p : DfnParams) : Type 0 where
  pub numbers : EncodableRow (params_numbers p)
  pub neg : p.ocv_neg_count < 2 ^ 64
  pub neg_long : length p.ocv_neg_coeffs ≡ 16
  pub neg_places : EncodableRow p.ocv_neg_coeffs
  pub pos : p.ocv_pos_count < 2 ^ 64
  pub pos_long : length p.ocv_pos_coeffs ≡ 16
  pub pos_places : EncodableRow p.ocv_pos_coeffs

-- a row of n places
pub writes_row : (n : ℕ) (s : List ℕ) (at : ℕ) (c : List Float) → length c ≡ n → Writes at (at + n) s (put_row s at c)
writes_row n s at c l = rw (← l) (writes_places (length c) s at c)

numbers_long : (p : DfnParams) → length (params_numbers p) ≡ 25
unfolding params_numbers
numbers_long p = refl

numbers_are : (p : DfnParams) → params_of (params_numbers p) p.ocv_neg_count p.ocv_neg_coeffs p.ocv_pos_count p.ocv_pos_coeffs ≡ p
unfolding params_of params_numbers
numbers_are p = refl

pub params_same : (s s' : List ℕ) → SameWords 0 59 s s' → params_at s' ≡ params_at s
unfolding params_at
params_same s s' p =
    rw (
      row_same 25 s s' 0 (same_part (lit≤ tt) (lit≤ tt) p),
      p.words 25 (lit≤ tt) (lit≤ tt),
      row_same 16 s s' 26 (same_part (lit≤ tt) (lit≤ tt) p),
      p.words 42 (lit≤ tt) (lit≤ tt),
      row_same 16 s s' 43 (same_part (lit≤ tt) (lit≤ tt) p),
    )

module _ (s : List ℕ) (p : DfnParams) (k : EncodableParams p) where
  abbrev p1 : List ℕ
  p1 = put_row s 0 (params_numbers p)

  abbrev p2 : List ℕ
  p2 = put_word p1 25 p.ocv_neg_count

  abbrev p3 : List ℕ
  p3 = put_row p2 26 p.ocv_neg_coeffs

  abbrev p4 : List ℕ
  p4 = put_word p3 42 p.ocv_pos_count

  abbrev p5 : List ℕ
  p5 = put_row p4 43 p.ocv_pos_coeffs

  q1 : Writes 0 25 s p1
  q1 = writes_row 25 s 0 (params_numbers p) (numbers_long p)

  q2 : Writes 25 26 p1 p2
  q2 = writes_word p1 25 p.ocv_neg_count

  q3 : Writes 26 42 p2 p3
  q3 = writes_row 16 p2 26 p.ocv_neg_coeffs k.neg_long

  q4 : Writes 42 43 p3 p4
  q4 = writes_word p3 42 p.ocv_pos_count

  q5 : Writes 43 59 p4 p5
  q5 = writes_row 16 p4 43 p.ocv_pos_coeffs k.pos_long

  q45 : Writes 42 59 p3 p5
  q45 = writes_then (lit≤ tt) (lit≤ tt) q4 q5

  q35 : Writes 26 59 p2 p5
  q35 = writes_then (lit≤ tt) (lit≤ tt) q3 q45

  q25 : Writes 25 59 p1 p5
  q25 = writes_then (lit≤ tt) (lit≤ tt) q2 q35

  pub writes_params : Writes 0 59 s (put_params s p)
  unfolding put_params
  writes_params = writes_then (lit≤ tt) (lit≤ tt) q1 q25

  pub params_read_back : 472 ≤ length s → params_at (put_params s p) ≡ p
  unfolding params_at put_params
  params_read_back h =
      let l2 : length p2 ≡ length s = q2.size ∙ q1.size in
      let l3 : length p3 ≡ length s = q3.size ∙ l2 in
      let l4 : length p4 ≡ length s = q4.size ∙ l3 in
      let numbers : places_at 25 p5 0 ≡ params_numbers p =
      row_same 25 p1 p5 0 (same_below (lit≤ tt) q25) ∙ row_written 25 s 0 (params_numbers p) (numbers_long p) (omega (arith, h)) k.numbers in
      let neg : word_at p5 25 ≡ p.ocv_neg_count = q35.outside 25 (inl (lit≤ tt)) ∙ word_written p1 25 p.ocv_neg_count (rw q1.size (omega (arith, h))) k.neg in
      let neg_row : places_at 16 p5 26 ≡ p.ocv_neg_coeffs =
      row_same 16 p3 p5 26 (same_below (lit≤ tt) q45) ∙ row_written 16 p2 26 p.ocv_neg_coeffs k.neg_long (rw l2 (omega (arith, h))) k.neg_places in
      let pos : word_at p5 42 ≡ p.ocv_pos_count = q5.outside 42 (inl (lit≤ tt)) ∙ word_written p3 42 p.ocv_pos_count (rw l3 (omega (arith, h))) k.pos in
      let pos_row : places_at 16 p5 43 ≡ p.ocv_pos_coeffs = row_written 16 p4 43 p.ocv_pos_coeffs k.pos_long (rw l4 (omega (arith, h))) k.pos_places in
      rw (numbers, neg, neg_row, pos, pos_row) (numbers_are p)

-- ---- the grid and the voltage limits
pub record EncodableGrid (c : DfnConfig) : Type 0 where
  pub neg : c.n_x_neg < 2 ^ 64
  pub pos : c.n_x_pos < 2 ^ 64
  pub radial : c.n_r < 2 ^ 64
  pub least : T (fits binary64 c.v_min)
  pub most : T (fits binary64 c.v_max)

pub grid_same : (s s' : List ℕ) → SameWords 59 64 s s' → config_at s' ≡ config_at s
unfolding config_at
grid_same s s' p =
    rw (p.words 59 (lit≤ tt) (lit≤ tt), p.words 60 (lit≤ tt) (lit≤ tt), p.words 61 (lit≤ tt) (lit≤ tt), same_float p 62 (lit≤ tt) (lit≤ tt), same_float p 63 (lit≤ tt) (lit≤ tt))

module _ (s : List ℕ) (c : DfnConfig) where
  abbrev g1 : List ℕ
  g1 = put_word s 59 c.n_x_neg

  abbrev g2 : List ℕ
  g2 = put_word g1 60 c.n_x_pos

  abbrev g3 : List ℕ
  g3 = put_word g2 61 c.n_r

  abbrev g4 : List ℕ
  g4 = put_float g3 62 c.v_min

  abbrev g5 : List ℕ
  g5 = put_float g4 63 c.v_max

  r1 : Writes 59 60 s g1
  r1 = writes_word s 59 c.n_x_neg

  r2 : Writes 60 61 g1 g2
  r2 = writes_word g1 60 c.n_x_pos

  r3 : Writes 61 62 g2 g3
  r3 = writes_word g2 61 c.n_r

  r4 : Writes 62 63 g3 g4
  r4 = writes_float g3 62 c.v_min

  r5 : Writes 63 64 g4 g5
  r5 = writes_float g4 63 c.v_max

  r45 : Writes 62 64 g3 g5
  r45 = writes_then (lit≤ tt) (lit≤ tt) r4 r5

  r35 : Writes 61 64 g2 g5
  r35 = writes_then (lit≤ tt) (lit≤ tt) r3 r45

  r25 : Writes 60 64 g1 g5
  r25 = writes_then (lit≤ tt) (lit≤ tt) r2 r35

  pub writes_grid : Writes 59 64 s (put_config s c)
  unfolding put_config
  writes_grid = writes_then (lit≤ tt) (lit≤ tt) r1 r25

  pub grid_read_back : 512 ≤ length s → EncodableGrid c → config_at (put_config s c) ≡ c
  unfolding config_at put_config
  grid_read_back h k =
      let l2 : length g2 ≡ length s = r2.size ∙ r1.size in
      let l3 : length g3 ≡ length s = r3.size ∙ l2 in
      let l4 : length g4 ≡ length s = r4.size ∙ l3 in
      let neg : word_at g5 59 ≡ c.n_x_neg = r25.outside 59 (inl (lit≤ tt)) ∙ word_written s 59 c.n_x_neg (omega (arith, h)) k.neg in
      let pos : word_at g5 60 ≡ c.n_x_pos = r35.outside 60 (inl (lit≤ tt)) ∙ word_written g1 60 c.n_x_pos (rw r1.size (omega (arith, h))) k.pos in
      let radial : word_at g5 61 ≡ c.n_r = r45.outside 61 (inl (lit≤ tt)) ∙ word_written g2 61 c.n_r (rw l2 (omega (arith, h))) k.radial in
      let least : float_at g5 62 ≡ c.v_min =
      same_float (same_below {a = 0} {b = 63} (lit≤ tt) r5) 62 (lit≤ tt) (lit≤ tt) ∙ float_written g3 62 c.v_min (rw l3 (omega (arith, h))) k.least in
      rw (neg, pos, radial, least, float_written g4 63 c.v_max (rw l4 (omega (arith, h))) k.most)

-- ---- the cell: parameters, grid, three rows, five numbers
abbrev pub last_numbers : DfnSolver → List Float
last_numbers d = d.time_s ∷ d.voltage ∷ d.current ∷ d.theta_neg_surf ∷ d.theta_pos_surf ∷ []

pub record EncodableDfn (d : DfnSolver) : Type 0 where
  pub params : EncodableParams d.params
  pub grid : EncodableGrid d.config
  pub neg_long : length d.c_s_neg ≡ 512
  pub neg_places : EncodableRow d.c_s_neg
  pub pos_long : length d.c_s_pos ≡ 512
  pub pos_places : EncodableRow d.c_s_pos
  pub electrolyte_long : length d.c_e ≡ 33
  pub electrolyte_places : EncodableRow d.c_e
  pub last : EncodableRow (last_numbers d)

pub dfn_same : (s s' : List ℕ) → SameWords 0 1126 s s' → cell_at s' ≡ cell_at s
unfolding cell_at
dfn_same s s' p =
    rw (
      params_same s s' (same_part (lit≤ tt) (lit≤ tt) p),
      grid_same s s' (same_part (lit≤ tt) (lit≤ tt) p),
      row_same 512 s s' 64 (same_part (lit≤ tt) (lit≤ tt) p),
      row_same 512 s s' dfn_cathode (same_part (lit≤ tt) (lit≤ tt) p),
      row_same 33 s s' dfn_electrolyte (same_part (lit≤ tt) (lit≤ tt) p),
      same_float p dfn_clock (lit≤ tt) (lit≤ tt),
      same_float p dfn_voltage (lit≤ tt) (lit≤ tt),
      same_float p dfn_current (lit≤ tt) (lit≤ tt),
      same_float p dfn_theta_neg (lit≤ tt) (lit≤ tt),
      same_float p dfn_theta_pos (lit≤ tt) (lit≤ tt),
    )

module _ (s : List ℕ) (d : DfnSolver) (k : EncodableDfn d) where
  abbrev d1 : List ℕ
  d1 = put_params s d.params

  abbrev d2 : List ℕ
  d2 = put_config d1 d.config

  abbrev d3 : List ℕ
  d3 = put_row d2 64 d.c_s_neg

  abbrev d4 : List ℕ
  d4 = put_row d3 dfn_cathode d.c_s_pos

  abbrev d5 : List ℕ
  d5 = put_row d4 dfn_electrolyte d.c_e

  abbrev d6 : List ℕ
  d6 = put_row d5 dfn_clock (last_numbers d)

  w1 : Writes 0 59 s d1
  w1 = writes_params s d.params k.params

  w2 : Writes 59 64 d1 d2
  w2 = writes_grid d1 d.config

  w3 : Writes 64 dfn_cathode d2 d3
  w3 = writes_row 512 d2 64 d.c_s_neg k.neg_long

  w4 : Writes dfn_cathode dfn_electrolyte d3 d4
  w4 = writes_row 512 d3 dfn_cathode d.c_s_pos k.pos_long

  w5 : Writes dfn_electrolyte dfn_clock d4 d5
  w5 = writes_row 33 d4 dfn_electrolyte d.c_e k.electrolyte_long

  w6 : Writes dfn_clock 1126 d5 d6
  w6 = writes_places 5 d5 dfn_clock (last_numbers d)

  w56 : Writes dfn_electrolyte 1126 d4 d6
  w56 = writes_then (lit≤ tt) (lit≤ tt) w5 w6

  w46 : Writes dfn_cathode 1126 d3 d6
  w46 = writes_then (lit≤ tt) (lit≤ tt) w4 w56

  w36 : Writes 64 1126 d2 d6
  w36 = writes_then (lit≤ tt) (lit≤ tt) w3 w46

  w26 : Writes 59 1126 d1 d6
  w26 = writes_then (lit≤ tt) (lit≤ tt) w2 w36

  pub writes_dfn : Writes 0 1126 s (put_cell s d)
  unfolding put_cell
  writes_dfn = writes_then (lit≤ tt) (lit≤ tt) w1 w26

  -- THE CELL THAT IS WRITTEN is read
  pub dfn_read_back : dfn_bytes ≤ length s → cell_at (put_cell s d) ≡ d
  unfolding cell_at put_cell
  dfn_read_back h =
      let l2 : length d2 ≡ length s = w2.size ∙ w1.size in
      let l3 : length d3 ≡ length s = w3.size ∙ l2 in
      let l4 : length d4 ≡ length s = w4.size ∙ l3 in
      let l5 : length d5 ≡ length s = w5.size ∙ l4 in
      let params : params_at d6 ≡ d.params = params_same d1 d6 (same_below (lit≤ tt) w26) ∙ params_read_back s d.params k.params (omega (arith, h)) in
      let grid : config_at d6 ≡ d.config = grid_same d2 d6 (same_below (lit≤ tt) w36) ∙ grid_read_back d1 d.config (rw w1.size (omega (arith, h))) k.grid in
      let neg : places_at 512 d6 64 ≡ d.c_s_neg =
      row_same 512 d3 d6 64 (same_below (lit≤ tt) w46) ∙ row_written 512 d2 64 d.c_s_neg k.neg_long (rw l2 (omega (arith, h))) k.neg_places in
      let pos : places_at 512 d6 dfn_cathode ≡ d.c_s_pos =
      row_same 512 d4 d6 dfn_cathode (same_below (lit≤ tt) w56) ∙ row_written 512 d3 dfn_cathode d.c_s_pos k.pos_long (rw l3 (omega (arith, h))) k.pos_places in
      let c_e_of : places_at 33 d6 dfn_electrolyte ≡ d.c_e = row_same 33 d5 d6 dfn_electrolyte (same_below (lit≤ tt) w6) ∙ row_written 33 d4 dfn_electrolyte d.c_e k.electrolyte_long (rw l4 (omega (arith, h))) k.electrolyte_places in
      let at : (i j : ℕ) → i < 5 → j ≡ dfn_clock + i → float_at d6 j ≡ get_or (last_numbers d) i nan = place_read_back d5 dfn_clock (last_numbers d) (rw l5 (omega (arith, h))) k.last in
      rw (params, grid, neg, pos, c_e_of, at 0 dfn_clock (lit≤ tt) refl, at 1 dfn_voltage (lit≤ tt) refl, at 2 dfn_current (lit≤ tt) refl, at 3 dfn_theta_neg (lit≤ tt) refl, at 4 dfn_theta_pos (lit≤ tt) refl)

pub dfn_layout : Layout 1126 cell_at put_cell EncodableDfn
dfn_layout = record { same = dfn_same; writes = writes_dfn; read_back = dfn_read_back }

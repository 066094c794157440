-- A sheet, a particle, a configuration and a single-particle cell that are written into an image are read back. Assumes nothing.
use Rattle.std.specs.Prelude.{ℕ, ◌≤◌, ◌<◌, ◌+◌, ◌*◌, ◌^◌, ◌≡◌, refl, List, [], ◌∷◌, T, length, get_or, Float}
use Rattle.std.proofs.Common.{◌∙◌, inl, arith, le_refl, lit≤}
use Rattle.std.specs.Float.{nan, binary64}
use Rattle.std.specs.Float.Ieee.{fits}
use Rattle.codec.specs.Words.{word_at, put_word, float_at, put_float, put_row}
use Rattle.electrode.specs.declared.ElectrodeParams.{ElectrodeParams}
use Rattle.particle.specs.declared.ParticleDiffusion.{ParticleDiffusion}
use Rattle.kinetics.specs.declared.SpmConfig.{SpmConfig}
use Rattle.solver.specs.declared.SpmSolver.{SpmSolver}
use Rattle.electrode.specs.Numbers.{sheet_numbers, numbers_back}
use Rattle.sheet_images.specs.Images.{sheet_at, put_sheet, particle_at, put_particle, config_at, put_config}
use Rattle.cell_images.specs.Images.{cell_at, put_cell}
use Rattle.image_laws.specs.Words.{word_written, float_written}
use Rattle.image_laws.specs.Encodable.{EncodableRow}
use Rattle.image_laws.specs.Rows.{Writes, SameWords, same_part, same_below, same_float, writes_then, writes_word, writes_float, writes_places, place_read_back, row_written, row_same}
use Rattle.image_laws.specs.Layout.{Layout}
use Rattle.image_layout.specs.Layout.{particle_nodes, particle_profile, cell_anode, cell_cathode, cell_clock, cell_report, cell_bytes, config_bytes}

-- ---- what an image can hold: words of 64 bits, numbers of binary64, profiles of 64 places
pub record EncodableSheet (p : ElectrodeParams) : Type 0 where
  pub chemistry : p.electrode_type < 2 ^ 64
  pub numbers : EncodableRow (sheet_numbers p)

pub record EncodableParticle (p : ParticleDiffusion) : Type 0 where
  pub sheet : EncodableSheet p.params
  pub nodes : p.n_nodes < 2 ^ 64
  pub long : length p.c_s ≡ 64
  pub places : EncodableRow p.c_s

abbrev pub config_numbers : SpmConfig → List Float
config_numbers c = c.v_min ∷ c.v_max ∷ c.faraday ∷ c.r_gas ∷ c.r_electrolyte_ohm_m2 ∷ []

pub record EncodableConfig (c : SpmConfig) : Type 0 where
  pub nodes : c.n_nodes < 2 ^ 64
  pub numbers : EncodableRow (config_numbers c)

pub record EncodableCell (s : SpmSolver) : Type 0 where
  pub config : EncodableConfig s.config
  pub anode : EncodableParticle s.anode
  pub cathode : EncodableParticle s.cathode
  pub clock : T (fits binary64 s.time_s)

-- ---- a sheet: eleven words
pub writes_sheet : (s : List ℕ) (at : ℕ) (p : ElectrodeParams) → Writes at (at + particle_nodes) s (put_sheet s at p)
unfolding put_sheet
writes_sheet s at p =
    let e : at + particle_nodes ≡ at + 1 + 10 = omega arith in
    rw e (writes_then (omega arith) (omega arith) (writes_word s at p.electrode_type) (writes_places 10 (put_word s at p.electrode_type) (at + 1) (sheet_numbers p)))

pub sheet_same : (s s' : List ℕ) (at : ℕ) → SameWords at (at + particle_nodes) s s' → sheet_at s' at ≡ sheet_at s at
unfolding sheet_at
sheet_same s s' at p = rw (p.words at (omega arith) (omega arith), row_same 10 s s' (at + 1) (same_part (omega arith) (omega arith) p))

pub sheet_read_back : (s : List ℕ) (at : ℕ) (p : ElectrodeParams) → (at + particle_nodes) * 8 ≤ length s → EncodableSheet p → sheet_at (put_sheet s at p) at ≡ p
unfolding sheet_at put_sheet
sheet_read_back s at p h k =
    let t = put_word s at p.electrode_type in
    let l : (at + 1 + 10) * 8 ≤ length t = rw (writes_word s at p.electrode_type).size (omega (arith, h)) in
    let first : word_at (put_row t (at + 1) (sheet_numbers p)) at ≡ p.electrode_type =
    (writes_places 10 t (at + 1) (sheet_numbers p)).outside at (inl (omega arith)) ∙ word_written s at p.electrode_type (omega (arith, h)) k.chemistry in
    rw (first, row_written 10 t (at + 1) (sheet_numbers p) refl l k.numbers) (numbers_back p)

-- ---- a particle: the sheet, the count of nodes, 64 places
abbrev pub particle_words : ℕ
particle_words = particle_profile + 64

pub writes_particle : (s : List ℕ) (at : ℕ) (p : ParticleDiffusion) → length p.c_s ≡ 64 → Writes at (at + particle_words) s (put_particle s at p)
unfolding put_particle
writes_particle s at p l =
    let t = put_sheet s at p.params in
    let u = put_word t (at + particle_nodes) p.n_nodes in
    let e : at + particle_words ≡ at + particle_profile + length p.c_s = omega (arith, l) in
    let f : at + particle_profile ≡ at + particle_nodes + 1 = omega arith in
    let w : Writes (at + particle_nodes) (at + particle_profile) t u = rw f (writes_word t (at + particle_nodes) p.n_nodes) in
    rw e
    (writes_then (omega arith) (omega arith) (writes_then (omega arith) (omega arith) (writes_sheet s at p.params) w) (writes_places (length p.c_s) u (at + particle_profile) p.c_s))

pub particle_same : (s s' : List ℕ) (at : ℕ) → SameWords at (at + particle_words) s s' → particle_at s' at ≡ particle_at s at
unfolding particle_at
particle_same s s' at p =
    rw (
      sheet_same s s' at (same_part (le_refl at) (omega arith) p),
      p.words (at + particle_nodes) (omega arith) (omega arith),
      row_same 64 s s' (at + particle_profile) (same_part (omega arith) (omega arith) p),
    )

pub particle_read_back : (s : List ℕ) (at : ℕ) (p : ParticleDiffusion) → (at + particle_words) * 8 ≤ length s → EncodableParticle p → particle_at (put_particle s at p) at ≡ p
unfolding particle_at put_particle
particle_read_back s at p h k =
    let t = put_sheet s at p.params in
    let u = put_word t (at + particle_nodes) p.n_nodes in
    let v = put_row u (at + particle_profile) p.c_s in
    let lt : length t ≡ length s = (writes_sheet s at p.params).size in
    let lu : length u ≡ length s = (writes_word t (at + particle_nodes) p.n_nodes).size ∙ lt in
    let wu = writes_word t (at + particle_nodes) p.n_nodes in
    let wv = writes_places (length p.c_s) u (at + particle_profile) p.c_s in
    let sheet : sheet_at v at ≡ p.params =
    sheet_same u v at (same_below (omega arith) wv) ∙ sheet_same t u at (same_below (le_refl (at + particle_nodes)) wu) ∙ sheet_read_back s at p.params (omega (arith, h)) k.sheet in
    let nodes : word_at v (at + particle_nodes) ≡ p.n_nodes = wv.outside (at + particle_nodes) (inl (omega arith)) ∙ word_written t (at + particle_nodes) p.n_nodes (rw lt (omega (arith, h))) k.nodes in
    rw (sheet, nodes, row_written 64 u (at + particle_profile) p.c_s k.long (rw lu (omega (arith, h))) k.places)

-- ---- a configuration in the first six words
pub writes_config : (s : List ℕ) (c : SpmConfig) → Writes 0 6 s (put_config s c)
unfolding put_config
writes_config s c = writes_then (lit≤ tt) (lit≤ tt) (writes_word s 0 c.n_nodes) (writes_places 5 (put_word s 0 c.n_nodes) 1 (config_numbers c))

pub config_same : (s s' : List ℕ) → SameWords 0 6 s s' → config_at s' ≡ config_at s
unfolding config_at
config_same s s' p =
    rw (
      p.words 0 (lit≤ tt) (lit≤ tt),
      same_float p 1 (lit≤ tt) (lit≤ tt),
      same_float p 2 (lit≤ tt) (lit≤ tt),
      same_float p 3 (lit≤ tt) (lit≤ tt),
      same_float p 4 (lit≤ tt) (lit≤ tt),
      same_float p 5 (lit≤ tt) (lit≤ tt),
    )

pub config_read_back : (s : List ℕ) (c : SpmConfig) → config_bytes ≤ length s → EncodableConfig c → config_at (put_config s c) ≡ c
unfolding config_at put_config
config_read_back s c h k =
    let t = put_word s 0 c.n_nodes in
    let l : (1 + 5) * 8 ≤ length t = rw (writes_word s 0 c.n_nodes).size h in
    let first : word_at (put_row t 1 (config_numbers c)) 0 ≡ c.n_nodes = (writes_places 5 t 1 (config_numbers c)).outside 0 (inl (lit≤ tt)) ∙ word_written s 0 c.n_nodes (omega (arith, h)) k.nodes in
    let next : (i j : ℕ) → i < 5 → j ≡ 1 + i → float_at (put_row t 1 (config_numbers c)) j ≡ get_or (config_numbers c) i nan = place_read_back t 1 (config_numbers c) l k.numbers in
    rw (first, next 0 1 (lit≤ tt) refl, next 1 2 (lit≤ tt) refl, next 2 3 (lit≤ tt) refl, next 3 4 (lit≤ tt) refl, next 4 5 (lit≤ tt) refl)

-- ---- a cell: configuration, anode, cathode, clock
pub cell_same : (s s' : List ℕ) → SameWords 0 cell_report s s' → cell_at s' ≡ cell_at s
unfolding cell_at
cell_same s s' p =
    rw (
      config_same s s' (same_part (lit≤ tt) (lit≤ tt) p),
      particle_same s s' cell_anode (same_part (lit≤ tt) (lit≤ tt) p),
      particle_same s s' cell_cathode (same_part (lit≤ tt) (lit≤ tt) p),
      same_float p cell_clock (lit≤ tt) (lit≤ tt),
    )

module _ (s : List ℕ) (c : SpmSolver) (k : EncodableCell c) where
  abbrev s1 : List ℕ
  s1 = put_config s c.config

  abbrev s2 : List ℕ
  s2 = put_particle s1 cell_anode c.anode

  abbrev s3 : List ℕ
  s3 = put_particle s2 cell_cathode c.cathode

  w1 : Writes 0 cell_anode s s1
  w1 = writes_config s c.config

  w2 : Writes cell_anode cell_cathode s1 s2
  w2 = writes_particle s1 cell_anode c.anode k.anode.long

  w3 : Writes cell_cathode cell_clock s2 s3
  w3 = writes_particle s2 cell_cathode c.cathode k.cathode.long

  w4 : Writes cell_clock cell_report s3 (put_cell s c)
  unfolding put_cell
  w4 = writes_float s3 cell_clock c.time_s

  pub writes_cell : Writes 0 cell_report s (put_cell s c)
  writes_cell =
      writes_then (lit≤ tt) (lit≤ tt) (writes_then (lit≤ tt) (lit≤ tt) (writes_then (lit≤ tt) (lit≤ tt) w1 w2) w3) w4

  -- THE CELL THAT IS WRITTEN is read
  pub cell_read_back : cell_bytes ≤ length s → cell_at (put_cell s c) ≡ c
  unfolding cell_at put_cell
  cell_read_back h =
      let u = put_float s3 cell_clock c.time_s in
      let config : config_at u ≡ c.config =
      config_same s3 u (same_below (lit≤ tt) w4) ∙ config_same s2 s3 (same_below (lit≤ tt) w3) ∙ config_same s1 s2 (same_below (lit≤ tt) w2) ∙ config_read_back s c.config (omega (arith, h)) k.config in
      let anode : particle_at u cell_anode ≡ c.anode =
      particle_same s3 u cell_anode (same_below (lit≤ tt) w4) ∙ particle_same s2 s3 cell_anode (same_below (lit≤ tt) w3) ∙ particle_read_back s1 cell_anode c.anode (rw w1.size (omega (arith, h))) k.anode in
      let cathode : particle_at u cell_cathode ≡ c.cathode =
      particle_same s3 u cell_cathode (same_below (lit≤ tt) w4) ∙ particle_read_back s2 cell_cathode c.cathode (rw (w2.size, w1.size) (omega (arith, h))) k.cathode in
      rw (config, anode, cathode, float_written s3 cell_clock c.time_s (rw (w3.size, w2.size, w1.size) (omega (arith, h))) k.clock)

-- ---- both as records that an answer begins with
abbrev pub particle_in : List ℕ → ParticleDiffusion
particle_in s = particle_at s 0

pub particle_layout : Layout particle_words particle_in (λ s p. put_particle s 0 p) EncodableParticle
particle_layout = record { same = λ s s' p. particle_same s s' 0 p; writes = λ s p e. writes_particle s 0 p e.long; read_back = λ s p e l. particle_read_back s 0 p l e }

pub cell_layout : Layout cell_report cell_at put_cell EncodableCell
cell_layout = record { same = cell_same; writes = writes_cell; read_back = cell_read_back }

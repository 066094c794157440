-- The answer of an accepted build of a particle or a single-particle cell is read back as what was built. Assumes nothing.
use Prim.Native.Nat.{ℕ, ◌≤◌}
use Rattle.std.specs.Prelude.{◌≡◌, cond, false, ◌&&◌, List, T, eqb, length}
use Rattle.std.proofs.Math.Path.{refl}
use Rattle.std.proofs.Common.{sym, ◌∙◌, arith, zero-lt-suc}
use Rattle.std.specs.Float.Ieee.{binary64, fits, neg, of_bits}
use Rattle.std.specs.Float.Ieee.Bits.{of_bits-fits}
use Rattle.std.specs.Float.Ieee.Fits.{mul-fits, and_l, and_r}
use borrow.Author.Tests.{eq-eqb, ne_eqb, le-leb, lt-leb}
use Rattle.matrix_rows.specs.Loops.{either}
use Rattle.binary64.specs.Operators.{◌⊗◌}
use Rattle.refusal.specs.Numbers.{sheet, neither_refused, passed}
use Rattle.electrode.specs.declared.ElectrodeParams.{ElectrodeParams}
use Rattle.electrode.specs.Sheet.{sheet_fits, graphite_anode, lfp_cathode, nmc_cathode}
use Rattle.particle.specs.Checks.{nodes_valid}
use Rattle.particle.specs.Calls as P
use Rattle.kinetics.specs.declared.SpmConfig.{SpmConfig}
use Rattle.kinetics.specs.Kinetics.{config_fits}
use Rattle.particle.specs.Answers.{ParticleAnswer}
use Rattle.solver.specs.Answers.{SpmBuildAnswer}
use Rattle.solver.specs.Cell as S
use Rattle.codec.specs.Words.{word_at}
use Rattle.image_rows.specs.Written.{written}
use Rattle.sheet_images.specs.Images.{sheet_at, config_at}
use Rattle.cell_images.specs.Images.{cell_at, put_cell}
use Rattle.boundary.specs.Calls as B
use Rattle.boundary.specs.Calls.{lengths, after_lengths}
use Rattle.image_builds.specs.Builds.{build_length, built_length, particle_made, cell_built, new_return, new_after}
use Rattle.image_laws.specs.Accepted.{inputs_pass, accepted_is}
use Rattle.image_laws.specs.Encodable.{EncodableRow, all_fit, closed_row, filled_encodable, filled_length}
use Rattle.image_laws.specs.Layout.{Holds, holds_alone}
use Rattle.image_laws.specs.CellImages.{EncodableSheet, EncodableParticle, config_numbers, EncodableCell, particle_in, particle_layout, cell_layout, particle_words}
use Rattle.image_laws.specs.CellEncodable.{sheet_at-row, sheet_encodable, config_at-row}
use Rattle.image_layout.specs.Layout.{particle_bytes, cell_bytes, particle_nodes, cell_report, new_cell_anode, new_cell_cathode}
use Rattle.electrode.specs.Numbers.{sheet_numbers}

-- ---- a particle
pub fresh_encodable : (p : ElectrodeParams) (n : ℕ) → EncodableSheet p → n ≤ 64 → EncodableParticle (P.fresh p n)
unfolding P.fresh
fresh_encodable p n h m = record {
  sheet = h;
  nodes = omega (arith, m);
  long = filled_length 64 n (p.theta_init ⊗ p.c_s_max);
  places = filled_encodable 64 n (p.theta_init ⊗ p.c_s_max) (mul-fits binary64 p.theta_init p.c_s_max);
}

new_valid : (p : ElectrodeParams) (n : ℕ) → P.new_refusal p n ≡ 0 → (n ≤ 64) × T (sheet_fits p)
unfolding P.new_refusal
new_valid p n h = let a = neither_refused _ _ h in ((nodes_valid n a.0).1, passed (sheet_fits p) sheet (zero-lt-suc 1) a.1)

made_encodable : (p : ElectrodeParams) (n : ℕ) → EncodableRow (sheet_numbers p) → (P.made p n).refusal ≡ 0 → EncodableParticle (P.made p n).particle
unfolding P.made
made_encodable p n h z =
    let refusal : ParticleAnswer → ℕ = λ x. x.refusal in
    let m = new_valid p n (inputs_pass refusal (P.new_refusal p n) _ _ refl z) in
    rw (accepted_is refusal (P.new_refusal p n) (P.particle_answer 0 (P.fresh p n)) _ refl z) (fresh_encodable p n (sheet_encodable p m.1 h) m.0)

-- call 7
module _ (s a : List ℕ) (h : new_return 7 s ≡ 0) where
  new_particle : EncodableParticle (particle_made s).particle
  unfolding new_return particle_made
  new_particle = made_encodable (sheet_at s 0) (word_at s particle_nodes) (sheet_at-row s 0) h

  pub particle_built : particle_bytes ≤ length a → Holds particle_words particle_in a (new_after 7 s a) (particle_made s).particle
  unfolding new_return new_after written
  particle_built l = rw (eq-eqb (particle_made s).refusal 0 h) (holds_alone particle_layout a (particle_made s).particle new_particle l)

-- ---- a cell
built_valid : (g : SpmConfig) (a c : ElectrodeParams) → S.build_refusal g a c ≡ 0 → (g.n_nodes ≤ 64) × T (config_fits g && sheet_fits a && sheet_fits c)
unfolding S.build_refusal
built_valid g a c h = let m = neither_refused _ _ h in ((nodes_valid g.n_nodes m.0).1, passed (config_fits g && sheet_fits a && sheet_fits c) sheet (zero-lt-suc 1) m.1)

module _ (g : SpmConfig) (a c : ElectrodeParams) (hg : EncodableRow (config_numbers g)) (ha : EncodableRow (sheet_numbers a)) (hc : EncodableRow (sheet_numbers c)) where
  fresh_cell : g.n_nodes ≤ 64 → T (config_fits g && sheet_fits a && sheet_fits c) → EncodableCell (S.fresh_solver g a c)
  unfolding S.fresh_solver
  fresh_cell m t =
      let u = and_r (config_fits g) (sheet_fits a) (and_l (config_fits g && sheet_fits a) (sheet_fits c) t) in
      let v = and_r (config_fits g && sheet_fits a) (sheet_fits c) t in
      record {
        config = record { nodes = omega (arith, m); numbers = hg };
        anode = fresh_encodable a g.n_nodes (sheet_encodable a u ha) m;
        cathode = fresh_encodable c g.n_nodes (sheet_encodable c v hc) m;
        clock = of_bits-fits binary64 0;
      }

  built_encodable : (S.built g a c).refusal ≡ 0 → EncodableCell (S.built g a c).solver
  unfolding S.built
  built_encodable z =
      let refusal : SpmBuildAnswer → ℕ = λ x. x.refusal in
      let m = built_valid g a c (inputs_pass refusal (S.build_refusal g a c) _ _ refl z) in
      rw (accepted_is refusal (S.build_refusal g a c) (S.solver_answer 0 (S.fresh_solver g a c)) _ refl z) (fresh_cell m.0 m.1)

-- the ready sheets
pub graphite_encodable : EncodableRow (sheet_numbers graphite_anode)
unfolding graphite_anode all_fit fits neg of_bits
graphite_encodable = closed_row (sheet_numbers graphite_anode) tt

pub lfp_encodable : EncodableRow (sheet_numbers lfp_cathode)
unfolding lfp_cathode all_fit fits neg of_bits
lfp_encodable = closed_row (sheet_numbers lfp_cathode) tt

pub nmc_encodable : EncodableRow (sheet_numbers nmc_cathode)
unfolding nmc_cathode all_fit fits neg of_bits
nmc_encodable = closed_row (sheet_numbers nmc_cathode) tt

built_cell : (call : ℕ) (s : List ℕ) → (cell_built call s).refusal ≡ 0 → EncodableCell (cell_built call s).solver
unfolding cell_built
built_cell call s =
    let P : SpmBuildAnswer → Type 0 = λ x. x.refusal ≡ 0 → EncodableCell x.solver in
    either P (eqb call 8) (S.ready (config_at s) lfp_cathode) _ (built_encodable (config_at s) graphite_anode lfp_cathode (config_at-row s) graphite_encodable lfp_encodable)
    (either P (eqb call 9) (S.ready (config_at s) nmc_cathode) (S.built (config_at s) (sheet_at s new_cell_anode) (sheet_at s new_cell_cathode))
    (built_encodable (config_at s) graphite_anode nmc_cathode (config_at-row s) graphite_encodable nmc_encodable)
    (built_encodable (config_at s) (sheet_at s new_cell_anode) (sheet_at s new_cell_cathode) (config_at-row s) (sheet_at-row s new_cell_anode) (sheet_at-row s new_cell_cathode)))

-- calls 8, 9 and 10
module _ (call : ℕ) (s a : List ℕ) (m : 8 ≤ call) (n : call ≤ 10) where
  not_particle : eqb call 7 ≡ false
  not_particle = ne_eqb call 7 (λ (e : call ≡ 7). omega (arith, m, e))

  -- the boundary's build, by its lengths
  pub cell_build_return : B.build_return call s (length a) ≡ after_lengths (lengths (length s) (build_length call) (length a) cell_bytes) (new_return call s)
  unfolding B.build_return built_length
  cell_build_return =
      rw (
        le-leb 1 call (omega (arith, m)),
        le-leb call 12 (omega (arith, n)),
        lt-leb call 3 (omega (arith, m)),
        ne_eqb call 4 (λ (e : call ≡ 4). omega (arith, m, e)),
        lt-leb call 6 (omega (arith, m)),
        not_particle,
        le-leb call 10 n,
      )

  pub cell_build_after : B.build_after call s a ≡ cond (lengths (length s) (build_length call) (length a) cell_bytes) (new_after call s a) a
  unfolding B.build_after built_length
  cell_build_after =
      rw (
        le-leb 1 call (omega (arith, m)),
        le-leb call 12 (omega (arith, n)),
        lt-leb call 3 (omega (arith, m)),
        ne_eqb call 4 (λ (e : call ≡ 4). omega (arith, m, e)),
        lt-leb call 6 (omega (arith, m)),
        not_particle,
        le-leb call 10 n,
      )

  pub cell_return_lem : new_return call s ≡ (cell_built call s).refusal
  unfolding new_return
  cell_return_lem = rw (not_particle, le-leb call 10 n)

  module _ (h : new_return call s ≡ 0) where
    new_cell_lem : EncodableCell (cell_built call s).solver
    new_cell_lem = built_cell call s (sym cell_return_lem ∙ h)

    answer_is : new_after call s a ≡ put_cell a (cell_built call s).solver
    unfolding new_after written
    answer_is = rw (not_particle, le-leb call 10 n, eq-eqb (cell_built call s).refusal 0 (sym cell_return_lem ∙ h))

    pub cell_built_lem : cell_bytes ≤ length a → Holds cell_report cell_at a (new_after call s a) (cell_built call s).solver
    cell_built_lem l = rw answer_is (holds_alone cell_layout a (cell_built call s).solver new_cell_lem l)

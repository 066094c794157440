-- What a particle that is handed in is checked for, and what one that nothing refuses has met. Assumes nothing.
use Rattle.std.specs.Prelude.{ℕ, ◌≤◌, ◌≡◌, T, Bool, ◌&&◌}
use Rattle.std.proofs.Common.{zero-lt-suc}
use Rattle.refusal.specs.Numbers.{first_refusal, refusal_unless, grid, sheet, neither_refused, passed}
use Rattle.refusal.specs.Ranges.{count_in_range}
use Rattle.refusal.specs.RangeLaws.{count_between}
use Rattle.profile.specs.Places.{profile_fits}
use Rattle.electrode.specs.Sheet.{sheet_fits}
use Rattle.particle.specs.declared.ParticleDiffusion.{ParticleDiffusion}

-- 3 to 64 nodes
abbrev pub nodes_fit : ℕ → Bool
nodes_fit n = count_in_range n 3 64

-- the whole particle but its count of nodes
abbrev pub fields_fit_of : ParticleDiffusion → Bool
fields_fit_of p = sheet_fits p.params && profile_fits p.c_s p.n_nodes p.params.c_s_max

unfoldable pub particle_refusal : ParticleDiffusion → ℕ
particle_refusal p = first_refusal (refusal_unless (nodes_fit p.n_nodes) grid) (refusal_unless (fields_fit_of p) sheet)

-- a particle that nothing refuses has 3 to 64 nodes, and its fields fit
pub nodes_valid : (n : ℕ) → refusal_unless (nodes_fit n) grid ≡ 0 → (3 ≤ n) × (n ≤ 64)
nodes_valid n h = count_between n 3 64 (passed (nodes_fit n) grid (zero-lt-suc 0) h)

pub nodes_of : (p : ParticleDiffusion) → particle_refusal p ≡ 0 → (3 ≤ p.n_nodes) × (p.n_nodes ≤ 64)
unfolding particle_refusal
nodes_of p h = nodes_valid p.n_nodes (neither_refused _ _ h).0

pub fields_of : (p : ParticleDiffusion) → particle_refusal p ≡ 0 → T (fields_fit_of p)
unfolding particle_refusal
fields_of p h = passed (fields_fit_of p) sheet (zero-lt-suc 1) (neither_refused _ _ h).1

-- What the checks of a particle say of its profile, place by place, and that a particle whose parts fit passes them. Assumes nothing.
use Rattle.std.specs.Prelude.{ℕ, ◌^◌, ◌<◌, ◌≤◌, ◌≡◌, T, Float, length}
use Rattle.std.proofs.Common.{le_trans, zero-lt-suc}
use Rattle.std.specs.Float.Ieee.{le, of_bits}
use Rattle.std.specs.Float.Ieee.Bits.{is_true}
use Rattle.std.specs.Float.Ieee.Fits.{and_l, and_r}
use Rattle.fraction.specs.Fraction.{whole}
use Rattle.fraction.proofs.Field.{≤F-trans}
use Rattle.fraction.proofs.Within.{within_self, within_weaken}
use Rattle.binary64.specs.Range.{Within, Sized}
use Rattle.binary64.proofs.Bounds.{bounded_most, within_scaled}
use Rattle.binary64.specs.Value.{val}
use Rattle.binary64.specs.Literals.{«0·0»}
use Rattle.refusal.specs.Numbers.{refusal_unless, first_refusal}
use Rattle.refusal.specs.Ranges.{in_range, plus_zero}
use Rattle.arrays.specs.Places.{places_fit}
use Rattle.arrays.specs.Laws.{place_used, place_unused, places_long, places_fit_lem}
use Rattle.electrode.specs.Sheet.{sheet_fits}
use Rattle.diffusion.specs.Premises.{NodeInRange, ProfileInRange, node_tested}
use Rattle.profile.specs.Places.{profile_fits}
use Rattle.particle.specs.declared.ParticleDiffusion.{ParticleDiffusion}
use Rattle.particle.specs.Checks.{nodes_fit, particle_refusal, nodes_of}
use Rattle.particle.specs.Particle.{place_of}
use Rattle.particle_laws.specs.Ranges.{sheet_ranges, sheet_passed, profile_passed}

-- a node that is from 0 to M is at most 2 ^ 17
pub node_sized : {x M : Float} → NodeInRange (val M) x → Within M (2 ^ 17) 1 1 1 → Sized x (2 ^ 17) 1
unfolding whole
node_sized h m = bounded_most {P = zero-lt-suc 0} (record { fine = h.fine; size = within_weaken (within_self h.range.lower) (≤F-trans h.range.upper (within_scaled m 0 17 tt tt).size.high) })

-- ---- a particle that passes
module _ (p : ParticleDiffusion) (h : particle_refusal p ≡ 0) where
  abbrev M : Float
  M = p.params.c_s_max

  places_passed : T (places_fit (λ x. in_range x «0·0» M) p.c_s p.n_nodes 64)
  unfolding profile_fits
  places_passed = profile_passed p h

  -- a used place is from 0 to M by the tests of binary64; an unused one is +0 by its bits
  pub used_passed : (i : ℕ) → i < p.n_nodes → T (in_range (place_of p i) «0·0» M)
  used_passed i l = place_used (λ x. in_range x «0·0» M) p.c_s p.n_nodes 64 places_passed i (le_trans l (nodes_of p h).1) l

  pub unused_passed : (i : ℕ) → p.n_nodes ≤ i → i < 64 → T (plus_zero (place_of p i))
  unused_passed i l m = place_unused (λ x. in_range x «0·0» M) p.c_s p.n_nodes 64 places_passed i m l

  pub all_places : 64 ≤ length p.c_s
  unfolding le of_bits
  all_places = places_long (λ x. in_range x «0·0» M) p.c_s p.n_nodes 64 places_passed (λ t. t)

  -- its nodes are finite and from 0 to M
  pub particle_in_range : ProfileInRange p.n_nodes (val M) p.c_s
  particle_in_range = record {
    long = le_trans (nodes_of p h).1 all_places;
    nodes = λ i l.
        let t = used_passed i l in
        node_tested (place_of p i) M (sheet_ranges p.params (sheet_passed p h)).most.0.fine (and_l (le «0·0» (place_of p i)) (le (place_of p i) M) t) (and_r (le «0·0» (place_of p i)) (le (place_of p i) M) t);
  }

  pub place_sized : (i : ℕ) → i < p.n_nodes → Sized (place_of p i) (2 ^ 17) 1
  place_sized i l = node_sized (particle_in_range.nodes i l) (sheet_ranges p.params (sheet_passed p h)).most

-- ---- and back
pub particle_fits : (p : ParticleDiffusion) → T (nodes_fit p.n_nodes) → T (sheet_fits p.params) → T (profile_fits p.c_s p.n_nodes p.params.c_s_max) → particle_refusal p ≡ 0
unfolding particle_refusal first_refusal refusal_unless
particle_fits p n s c = rw (is_true (nodes_fit p.n_nodes) n, is_true (sheet_fits p.params) s, is_true (profile_fits p.c_s p.n_nodes p.params.c_s_max) c)

pub particle_passes : (p : ParticleDiffusion) → T (nodes_fit p.n_nodes) → T (sheet_fits p.params)
    → ((i : ℕ) → i < p.n_nodes → T (in_range (place_of p i) «0·0» p.params.c_s_max))
    → ((i : ℕ) → p.n_nodes ≤ i → i < 64 → T (plus_zero (place_of p i))) → particle_refusal p ≡ 0
unfolding profile_fits
particle_passes p n s u w =
    particle_fits p n s (places_fit_lem (λ x. in_range x «0·0» p.params.c_s_max) p.c_s p.n_nodes 64 (λ i l m. u i m) (λ i l m. w i m l))

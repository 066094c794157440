-- The centre node and its neighbour in an exact sub-step: with 6·D·t ≤ h² the centre stays on its side of where the neighbour stood, with 6·D·t above h² it goes beyond. Assumes nothing.
use Rattle.std.specs.Prelude.{ℕ, [], ◌∷◌}
use Rattle.fraction.specs.Fraction.{Fraction, nat, neg_f, ◌-F◌, ◌*F◌, inv, ◌≤F◌, ◌<F◌, ◌from◌to◌}
use Rattle.fraction.proofs.Field.{le_of_lt, lt_from, lt_of_not_le, lt_not_le}
use Rattle.fraction.proofs.Certificate.{quote}
use Rattle.fraction.proofs.Certificate.{le_by, up, num, eqn, ◌⊞◌, ◌⊠◌, ◌·◌}
use Rattle.fraction.proofs.Inverse.{mul_inv, mul_cancel, mul-pos}
use Rattle.diffusion.specs.Exact.{Numbers, g, centre}
use Rattle.diffusion.specs.Premises.{Stable}
use Rattle.diffusion.proofs.ExactLaws.{g_low, g_high}

module _ (e : Numbers) (c : ℕ → Fraction) where
  pub centre_stays : Stable e → c 0 ≤F c 1 → centre e c from c 0 to c 1
  unfolding centre
  centre_stays s l = record {
    lower = le_by (c 0 ∷ c 1 ∷ g e ∷ []) 0 (num 6 ⊠ g_low e s ⊠ up l) (search quote depth 24) tt;
    upper = le_by (c 0 ∷ c 1 ∷ g e ∷ []) 0 (up (g_high e s) ⊠ up l) (search quote depth 24) tt;
  }

  module _ (h : nat 0 <F e.h) (l : c 0 <F c 1) where
    rise_above : nat 0 <F c 1 -F c 0
    rise_above = lt_from l (λ (b : c 1 -F c 0 ≤F nat 0). le_by (c 0 ∷ c 1 ∷ []) 0 (up b) (search quote depth 24) tt)

    pub centre_passes : e.h *F e.h <F nat 6 *F e.D *F e.t → c 1 <F centre e c
    unfolding centre g
    centre_passes above =
        let H = e.h *F e.h in
        let rise = c 1 -F c 0 in
        lt_of_not_le (λ (b : centre e c ≤F c 1). lt_not_le above (mul_cancel (nat 6 *F e.D *F e.t) H rise_above
        (le_by (e.h ∷ e.D ∷ e.t ∷ inv H ∷ c 0 ∷ c 1 ∷ []) 0 (le_of_lt (mul-pos h h) ⊠ up b ⊞ eqn (neg_f (nat 6 *F e.D *F e.t *F rise) · mul_inv (mul-pos h h))) (search quote depth 24) tt)))

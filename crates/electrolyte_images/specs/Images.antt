-- The images of an electrolyte's parameters (8 words) and of an electrolyte (113).
use Rattle.std.specs.Prelude.{ℕ, ◌+◌, List, [], ◌∷◌, Float}
use Rattle.codec.specs.Words.{word_at, put_word, float_at, places_at, put_row}
use Rattle.electrolyte_parameters.specs.declared.ElectrolyteParams.{ElectrolyteParams}
use Rattle.electrolyte.specs.declared.ElectrolyteState.{ElectrolyteState}
use Rattle.image_layout.specs.Layout.{electrolyte_regions, electrolyte_nodes_neg, electrolyte_nodes_sep, electrolyte_nodes_pos, electrolyte_profile}

-- ---- the electrolyte's eight parameters

unfoldable pub electrolyte_params_at : List ℕ → ElectrolyteParams
electrolyte_params_at s = record {
  d_e_ref = float_at s 0;
  kappa_ref = float_at s 1;
  t_plus = float_at s 2;
  bruggeman = float_at s 3;
  c_e_init = float_at s 4;
  e_a_de = float_at s 5;
  e_a_kappa = float_at s 6;
  t_ref = float_at s 7;
}

abbrev pub electrolyte_params_numbers : ElectrolyteParams → List Float
electrolyte_params_numbers p = p.d_e_ref ∷ p.kappa_ref ∷ p.t_plus ∷ p.bruggeman ∷ p.c_e_init ∷ p.e_a_de ∷ p.e_a_kappa ∷ p.t_ref ∷ []

unfoldable pub put_electrolyte_params : List ℕ → ElectrolyteParams → List ℕ
put_electrolyte_params s p = put_row s 0 (electrolyte_params_numbers p)

-- ---- an electrolyte: parameters, lengths, porosities, counts of nodes, 96 places

unfoldable pub electrolyte_at : List ℕ → ElectrolyteState
electrolyte_at s = record {
  params = electrolyte_params_at s;
  l_neg = float_at s electrolyte_regions;
  l_sep = float_at s (electrolyte_regions + 1);
  l_pos = float_at s (electrolyte_regions + 2);
  eps_neg = float_at s (electrolyte_regions + 3);
  eps_sep = float_at s (electrolyte_regions + 4);
  eps_pos = float_at s (electrolyte_regions + 5);
  n_neg = word_at s electrolyte_nodes_neg;
  n_sep = word_at s electrolyte_nodes_sep;
  n_pos = word_at s electrolyte_nodes_pos;
  c_e = places_at 96 s electrolyte_profile;
}

abbrev pub region_numbers : ElectrolyteState → List Float
region_numbers e = e.l_neg ∷ e.l_sep ∷ e.l_pos ∷ e.eps_neg ∷ e.eps_sep ∷ e.eps_pos ∷ []

unfoldable pub put_regions : List ℕ → List Float → ℕ → ℕ → ℕ → List ℕ
put_regions s x n_neg n_sep n_pos = put_word (put_word (put_word (put_row s electrolyte_regions x) electrolyte_nodes_neg n_neg) electrolyte_nodes_sep n_sep) electrolyte_nodes_pos n_pos

unfoldable pub put_electrolyte : List ℕ → ElectrolyteState → List ℕ
put_electrolyte s e =
    put_row (put_regions (put_electrolyte_params s e.params) (region_numbers e) e.n_neg e.n_sep e.n_pos) electrolyte_profile e.c_e

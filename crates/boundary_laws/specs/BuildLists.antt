-- Builds of C, `pj_build` 7 to 12: an accepted one replaces the record. Assumes nothing.
use Rattle.std.specs.Prelude.{ℕ, ◌≤◌, ◌≡◌, refl, cond, List, eqb, length}
use Rattle.std.proofs.Common.{sym, ap, ◌∙◌, eq-eqb, ne_eqb}
use Rattle.cell_images.specs.Images.{cell_at}
use Rattle.electrolyte_images.specs.Images.{electrolyte_at}
use Rattle.dfn_images.specs.Images as I
use Rattle.image_builds.specs.Builds.{build_length, built_length, new_return, particle_made, cell_built, electrolyte_built, dfn_made}
use Rattle.image_laws.specs.Accepted.{after_lengths_lem}
use Rattle.image_laws.specs.CellImages.{particle_in}
use Rattle.boundary.specs.Calls as B
use Rattle.image_laws.specs.AnswerLengths.{particle_build_length, electrolyte_build_length, dfn_build_length}
use Rattle.image_laws.specs.ReadBack.{particle_build_read_back, electrolyte_build_read_back, dfn_build_read_back}
use Rattle.boundary_laws.specs.CallLists.{Calls, Implements, plain_implements}
use Rattle.boundary_laws.specs.StepLists.{whole}
use Rattle.image_layout.specs.Layout.{particle_bytes, electrolyte_bytes, cell_bytes, dfn_bytes, new_particle_bytes, regions_bytes, new_dfn_bytes}

-- ---- builds
-- 7, 11 and 12 of `pj_build`: the image that is handed in
pub record Build : Type 0 where
  pub image : List ℕ

-- 8, 9 and 10: graphite_lfp, graphite_nmc, and a cell of two sheets
pub record CellBuild : Type 0 where
  pub call : ℕ
  pub least : 8 ≤ call
  pub most : call ≤ 10
  pub image : List ℕ

-- the new record where the build is accepted, and else the old one
abbrev replaced : {C : Type 0} → ℕ → C → C → C
replaced n new old = cond (eqb n 0) new old

abbrev pub particle_builds : Calls particle_bytes particle_in Build
particle_builds = record {
  formed = λ q a. B.lengths (length q.image) new_particle_bytes (length a) particle_bytes;
  returned = λ s q a. B.build_return 7 q.image (length a);
  left = λ s q a. B.build_after 7 q.image a;
  handed = λ s q a. eqb (B.build_return 7 q.image (length a)) 0;
  refusal = λ p q. (particle_made q.image).refusal;
  next = λ p q. replaced (particle_made q.image).refusal (particle_made q.image).particle p;
}

abbrev pub cell_builds : Calls cell_bytes cell_at CellBuild
cell_builds = record {
  formed = λ q a. B.lengths (length q.image) (build_length q.call) (length a) cell_bytes;
  returned = λ s q a. B.build_return q.call q.image (length a);
  left = λ s q a. B.build_after q.call q.image a;
  handed = λ s q a. eqb (B.build_return q.call q.image (length a)) 0;
  refusal = λ c q. (cell_built q.call q.image).refusal;
  next = λ c q. replaced (cell_built q.call q.image).refusal (cell_built q.call q.image).solver c;
}

abbrev pub electrolyte_builds : Calls electrolyte_bytes electrolyte_at Build
electrolyte_builds = record {
  formed = λ q a. B.lengths (length q.image) regions_bytes (length a) electrolyte_bytes;
  returned = λ s q a. B.build_return 11 q.image (length a);
  left = λ s q a. B.build_after 11 q.image a;
  handed = λ s q a. eqb (B.build_return 11 q.image (length a)) 0;
  refusal = λ e q. (electrolyte_built q.image).refusal;
  next = λ e q. replaced (electrolyte_built q.image).refusal (electrolyte_built q.image).state e;
}

abbrev pub dfn_builds : Calls dfn_bytes I.cell_at Build
dfn_builds = record {
  formed = λ q a. B.lengths (length q.image) new_dfn_bytes (length a) dfn_bytes;
  returned = λ s q a. B.build_return 12 q.image (length a);
  left = λ s q a. B.build_after 12 q.image a;
  handed = λ s q a. eqb (B.build_return 12 q.image (length a)) 0;
  refusal = λ d q. (dfn_made q.image).refusal;
  next = λ d q. replaced (dfn_made q.image).refusal (dfn_made q.image).cell d;
}

-- ---- each build implements its definition
module _ {C : Type 0} (n : ℕ) (new old : C) where
  pub built : n ≡ 0 → replaced n new old ≡ new
  built h = rw (eq-eqb n 0 h)

  pub unbuilt : (n ≡ 0 → ⊥) → replaced n new old ≡ old
  unbuilt h = rw (ne_eqb n 0 h)

particle_build_returned : (s : List ℕ) (q : Build) (a : List ℕ) → particle_builds.returned s q a ≡ B.after_lengths (particle_builds.formed q a) (particle_made q.image).refusal
unfolding B.build_return build_length built_length new_return
particle_build_returned s q a = refl

pub particle_builds_implement : Implements particle_builds
particle_builds_implement =
    plain_implements particle_builds
    (record {
      returned_is = λ s q a l. particle_build_returned s q a;
      handed_is = λ s q a. refl;
      accepted_reads = λ s q a h.
          ap particle_in (whole particle_bytes (particle_builds.left s q a) (particle_build_length q.image a h)) ∙ particle_build_read_back q.image a h
          ∙ sym (built _ _ (particle_in s) (after_lengths_lem _ _ (sym (particle_build_returned s q a) ∙ h)).1);
      accepted_fills = λ s q a h. let l = particle_build_length q.image a h in ap length (whole particle_bytes (particle_builds.left s q a) l) ∙ l;
      refused_keeps = λ p q n. unbuilt _ _ p n;
    })

electrolyte_build_returned : (s : List ℕ) (q : Build) (a : List ℕ) → electrolyte_builds.returned s q a ≡ B.after_lengths (electrolyte_builds.formed q a) (electrolyte_built q.image).refusal
unfolding B.build_return build_length built_length new_return
electrolyte_build_returned s q a = refl

pub electrolyte_builds_implement : Implements electrolyte_builds
electrolyte_builds_implement =
    plain_implements electrolyte_builds
    (record {
      returned_is = λ s q a l. electrolyte_build_returned s q a;
      handed_is = λ s q a. refl;
      accepted_reads = λ s q a h.
          ap electrolyte_at (whole electrolyte_bytes (electrolyte_builds.left s q a) (electrolyte_build_length q.image a h)) ∙ electrolyte_build_read_back q.image a h
          ∙ sym (built _ _ (electrolyte_at s) (after_lengths_lem _ _ (sym (electrolyte_build_returned s q a) ∙ h)).1);
      accepted_fills = λ s q a h. let l = electrolyte_build_length q.image a h in ap length (whole electrolyte_bytes (electrolyte_builds.left s q a) l) ∙ l;
      refused_keeps = λ e q n. unbuilt _ _ e n;
    })

dfn_build_returned : (s : List ℕ) (q : Build) (a : List ℕ) → dfn_builds.returned s q a ≡ B.after_lengths (dfn_builds.formed q a) (dfn_made q.image).refusal
unfolding B.build_return build_length built_length new_return
dfn_build_returned s q a = refl

pub dfn_builds_implement : Implements dfn_builds
dfn_builds_implement =
    plain_implements dfn_builds
    (record {
      returned_is = λ s q a l. dfn_build_returned s q a;
      handed_is = λ s q a. refl;
      accepted_reads = λ s q a h.
          ap I.cell_at (whole dfn_bytes (dfn_builds.left s q a) (dfn_build_length q.image a h)) ∙ dfn_build_read_back q.image a h
          ∙ sym (built _ _ (I.cell_at s) (after_lengths_lem _ _ (sym (dfn_build_returned s q a) ∙ h)).1);
      accepted_fills = λ s q a h. let l = dfn_build_length q.image a h in ap length (whole dfn_bytes (dfn_builds.left s q a) l) ∙ l;
      refused_keeps = λ d q n. unbuilt _ _ d n;
    })

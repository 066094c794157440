-- A worked instance of theorem 1 of calls from C, every premise met: the ready graphite sheet and 11 nodes, the particle that `pj_build` 7 makes of them, and a
-- list of `pj_particle_step`, two calls that are refused and one with an answer a byte short among three that are accepted. Answers are zeros. Assumes nothing.
use Rattle.std.specs.Prelude.{ℕ, ◌<◌, ◌-◌, ◌≡◌, refl, List, [], ◌∷◌, length}
use Rattle.std.proofs.Common.{ap, ◌∙◌, subst, le_refl}
use Rattle.std.proofs.Math.Dec.{lit≤}
use Rattle.std.specs.Float.Ieee.{le, of_bits}
use Rattle.fraction.specs.Fraction.{nat, pow2, ◌-F◌, ◌*F◌, ◌/F◌, ◌within◌}
use Rattle.binary64.specs.Value.{val}
use Rattle.refusal.specs.Numbers.{first_refusal, refusal_unless}
use Rattle.electrode.specs.declared.ElectrodeParams.{ElectrodeParams}
use Rattle.electrode.specs.Sheet.{graphite_anode}
use Rattle.particle.specs.declared.ParticleDiffusion.{ParticleDiffusion}
use Rattle.particle.specs.Answers.{ParticleAnswer}
use Rattle.particle.specs.Calls as P
use Rattle.particle_laws.specs.Demand as PD
use Rattle.particle_laws.proofs.Instance.{start, start_passes, sheet_is, nodes_are, draw, no_flux, no_time, discharge, discharge_taken, discharge_conditions_hold}
use Rattle.codec.specs.Words.{word_at, put_word}
use Rattle.sheet_images.specs.Images.{sheet_at, put_sheet}
use Rattle.image_builds.specs.Builds.{particle_made, new_return, build_length, built_length}
use Rattle.boundary.specs.Calls as B
use Rattle.image_laws.specs.Words.{word_read_back}
use Rattle.image_laws.specs.Rows.{writes_word, same_below}
use Rattle.image_laws.specs.CellImages.{particle_in, EncodableSheet, writes_sheet, sheet_same, sheet_read_back}
use Rattle.image_laws.specs.CellBuilds.{graphite_encodable}
use Rattle.image_laws.specs.AnswerLengths.{particle_build_length}
use Rattle.image_laws.specs.ReadBack.{particle_build_read_back}
use Rattle.boundary_laws.specs.CallLists.{CCall, image_after, accepted_calls, well_formed_of}
use Rattle.boundary_laws.specs.StepLists.{particle_steps, particle_simulates}
use Rattle.boundary_laws.specs.Nodes.{node_of}
use Rattle.boundary_laws.specs.Demand.{ParticleStepConditions, particle_images_near}
use Rattle.boundary_laws.specs.Instance.{zeros, zeros_length}
use Rattle.image_layout.specs.Layout.{particle_bytes, particle_nodes, new_particle_bytes}

-- ---- the image
-- the sheet's, and 11 nodes
unfoldable pub sheet_image : List ℕ
sheet_image = put_word (put_sheet (zeros new_particle_bytes) 0 graphite_anode) particle_nodes 11

-- what `pj_build` 7 leaves in an answer of zeros
unfoldable pub particle_image : List ℕ
particle_image = B.build_after 7 sheet_image (zeros particle_bytes)

-- the calls: accepted, refused with 3, refused with 10, accepted, refused with 4, accepted
abbrev pub particle_call_list : List (CCall PD.Call)
particle_call_list =
    record { call = draw; answer = zeros particle_bytes } ∷ record { call = no_flux; answer = zeros particle_bytes } ∷ record { call = draw; answer = zeros (particle_bytes - 1) }
    ∷ record { call = draw; answer = zeros particle_bytes } ∷ record { call = no_time; answer = zeros particle_bytes } ∷ record { call = draw; answer = zeros particle_bytes } ∷ []

-- ---- the build is accepted, and its particle is the one that `new` gives
graphite_sheet : EncodableSheet graphite_anode
graphite_sheet = record { chemistry = unfold graphite_anode in lit≤ tt; numbers = graphite_encodable }

sheet_read : sheet_at sheet_image 0 ≡ graphite_anode
unfolding sheet_image
sheet_read =
    let t = put_sheet (zeros new_particle_bytes) 0 graphite_anode in
    sheet_same t (put_word t particle_nodes 11) 0 (same_below (le_refl particle_nodes) (writes_word t particle_nodes 11)) ∙ sheet_read_back (zeros new_particle_bytes) 0 graphite_anode (rw (zeros_length new_particle_bytes) (lit≤ tt)) graphite_sheet

sheet_length : length (put_sheet (zeros new_particle_bytes) 0 graphite_anode) ≡ new_particle_bytes
sheet_length = (writes_sheet (zeros new_particle_bytes) 0 graphite_anode).size ∙ zeros_length new_particle_bytes

nodes_read : word_at sheet_image particle_nodes ≡ 11
unfolding sheet_image
nodes_read = word_read_back (put_sheet (zeros new_particle_bytes) 0 graphite_anode) particle_nodes 11 (rw sheet_length (le_refl new_particle_bytes)) (lit≤ tt)

image_bytes : length sheet_image ≡ new_particle_bytes
unfolding sheet_image
image_bytes = (writes_word (put_sheet (zeros new_particle_bytes) 0 graphite_anode) particle_nodes 11).size ∙ sheet_length

made_is : particle_made sheet_image ≡ P.made graphite_anode 11
unfolding particle_made
made_is = ap (λ (p : ElectrodeParams). P.made p (word_at sheet_image particle_nodes)) sheet_read ∙ ap (P.made graphite_anode) nodes_read

made_accepted : (P.made graphite_anode 11).refusal ≡ 0
unfolding P.made P.new_refusal first_refusal refusal_unless graphite_anode le of_bits
made_accepted = refl

pub particle_build_returns : B.build_return 7 sheet_image (length (zeros particle_bytes)) ≡ 0
unfolding B.build_return build_length built_length new_return B.after_lengths
particle_build_returns = rw image_bytes (ap (λ (a : ParticleAnswer). a.refusal) made_is ∙ made_accepted)

pub particle_image_length : length particle_image ≡ particle_bytes
unfolding particle_image
particle_image_length = particle_build_length sheet_image (zeros particle_bytes) particle_build_returns

pub particle_image_is : particle_in particle_image ≡ start
unfolding particle_image
particle_image_is = particle_build_read_back sheet_image (zeros particle_bytes) particle_build_returns ∙ ap (λ (a : ParticleAnswer). a.particle) made_is

-- ---- the premises
formed_calls : well_formed_of particle_steps particle_call_list ≡ discharge
unfolding well_formed_of
formed_calls = refl

pub particle_calls_accepted : accepted_calls particle_steps particle_image particle_call_list ≡ draw ∷ draw ∷ draw ∷ []
particle_calls_accepted =
    (particle_simulates particle_call_list particle_image particle_image_length).calls
    ∙ ap (λ (p : ParticleDiffusion). PD.taken p (well_formed_of particle_steps particle_call_list)) particle_image_is ∙ ap (PD.taken start) formed_calls ∙ discharge_taken

calls_conditions : ParticleStepConditions particle_image particle_call_list
calls_conditions = rw (particle_calls_accepted, particle_image_is) (rw discharge_taken at discharge_conditions_hold)

-- ---- THEOREM 1 for the words of the last image, K = 3
pub particle_image_near : (i : ℕ) → i < 11
    → node_of (image_after particle_steps particle_image particle_call_list) i -F PD.exact_place start discharge i within nat 3 *F val graphite_anode.c_s_max /F pow2 49
particle_image_near i l =
    subst (λ (p : ElectrodeParams). node_of (image_after particle_steps particle_image particle_call_list) i -F PD.exact_place start discharge i within nat 3 *F val p.c_s_max /F pow2 49) sheet_is
    (rw (particle_calls_accepted, particle_image_is, formed_calls) at
    (particle_images_near particle_image particle_call_list particle_image_length (rw particle_image_is start_passes) calls_conditions i (rw (particle_image_is, nodes_are) l)))

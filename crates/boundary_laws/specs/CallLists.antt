-- LISTS OF CALLS FROM C: each call is handed the image that the last answer begins with, refused calls and wrong lengths change nothing, and the record of the
-- last image is the record after the same list of calls by their definitions. One law for every kind of call. Assumes nothing.
use Rattle.std.specs.Prelude.{ℕ, ◌+◌, ◌≡◌, Bool, ◌&&◌, ◌⊎◌, eqb, take}
use Rattle.std.proofs.Math.Path.{refl, ap}
use Rattle.std.proofs.Common.{sym, ◌∙◌, inl, inr, ⊎_elim, zero-add, eqb-true}
use Rattle.std.proofs.Math.Bool.{true, false, cond}
use mathlib.Core.List.{List, [], ◌∷◌}
use Rattle.std.proofs.lemmas.Bool.{eqb-false}
use Rattle.std.proofs.Math.ListN.{length}
use Rattle.refusal.specs.Numbers as N
use Rattle.boundary.specs.Calls.{after_lengths}

-- A kind of call on images of `size` bytes that `read` reads as a record. What C sees, by the definitions that the contracts cite: what a call returns, what it
-- leaves in its answer, and whether that begins with a new image. What the call is: its number and the next record, by the record.
pub record Calls {C : Type 0} (size : ℕ) (read : List ℕ → C) (Q : Type 0) : Type 0 where
  pub formed : Q → List ℕ → Bool
  pub returned : List ℕ → Q → List ℕ → ℕ
  pub left : List ℕ → Q → List ℕ → List ℕ
  pub handed : List ℕ → Q → List ℕ → Bool
  pub refusal : C → Q → ℕ
  pub next : C → Q → C

-- a call with the answer that it lends, any bytes of any length
pub record CCall (Q : Type 0) : Type 0 where
  pub call : Q
  pub answer : List ℕ

module _ {C Q : Type 0} {size : ℕ} {read : List ℕ → C} (b : Calls size read Q) where
  -- ---- what C sees
  -- the next image: what the answer begins with where it holds one, and else the same
  unfoldable pub image_next : List ℕ → CCall Q → List ℕ
  image_next s q = cond (b.handed s q.call q.answer) (take size (b.left s q.call q.answer)) s

  unfoldable pub image_after : List ℕ → List (CCall Q) → List ℕ
  image_after s [] = s
  image_after s (q ∷ qs) = image_after (image_next s q) qs

  -- the calls that return 0, in order
  unfoldable pub accepted_calls : List ℕ → List (CCall Q) → List Q
  accepted_calls s [] = []
  accepted_calls s (q ∷ qs) =
      cond (eqb (b.returned s q.call q.answer) 0) (q.call ∷ accepted_calls (image_next s q) qs) (accepted_calls (image_next s q) qs)

  -- w of each answer of a call that returns 0, added up
  unfoldable pub reported : (List ℕ → ℕ) → List ℕ → List (CCall Q) → ℕ
  reported w s [] = 0
  reported w s (q ∷ qs) = cond (eqb (b.returned s q.call q.answer) 0) (w (b.left s q.call q.answer)) 0 + reported w (image_next s q) qs

  -- ---- what the calls are
  -- those whose lengths are right: the others are refused for that alone
  unfoldable pub well_formed_of : List (CCall Q) → List Q
  well_formed_of [] = []
  well_formed_of (q ∷ qs) = cond (b.formed q.call q.answer) (q.call ∷ well_formed_of qs) (well_formed_of qs)

  unfoldable pub record_after : C → List Q → C
  record_after c [] = c
  record_after c (q ∷ qs) = record_after (b.next c q) qs

  unfoldable pub accepted : C → List Q → List Q
  accepted c [] = []
  accepted c (q ∷ qs) = cond (eqb (b.refusal c q) 0) (q ∷ accepted (b.next c q) qs) (accepted (b.next c q) qs)

  unfoldable pub total : (C → Q → ℕ) → C → List Q → ℕ
  total W c [] = 0
  total W c (q ∷ qs) = W c q + total W (b.next c q) qs

  -- ---- what is to be shown of a kind of call
  pub record Implements : Type 0 where
    pub malformed : (s : List ℕ) (q : Q) (a : List ℕ) → length s ≡ size → b.formed q a ≡ false → (b.returned s q a ≡ N.bad_length) × (b.handed s q a ≡ false)
    pub returns : (s : List ℕ) (q : Q) (a : List ℕ) → length s ≡ size → b.formed q a ≡ true → b.returned s q a ≡ b.refusal (read s) q
    pub reads : (s : List ℕ) (q : Q) (a : List ℕ) → length s ≡ size → b.formed q a ≡ true → b.handed s q a ≡ true → read (take size (b.left s q a)) ≡ b.next (read s) q
    pub fills : (s : List ℕ) (q : Q) (a : List ℕ) → length s ≡ size → b.formed q a ≡ true → b.handed s q a ≡ true → length (take size (b.left s q a)) ≡ size
    pub keeps : (s : List ℕ) (q : Q) (a : List ℕ) → length s ≡ size → b.formed q a ≡ true → b.handed s q a ≡ false → b.next (read s) q ≡ read s

  -- what a list of calls from C is
  pub record Simulates (s : List ℕ) (qs : List (CCall Q)) : Type 0 where
    pub reads : read (image_after s qs) ≡ record_after (read s) (well_formed_of qs)
    pub fills : length (image_after s qs) ≡ size
    pub calls : accepted_calls s qs ≡ accepted (read s) (well_formed_of qs)

  -- ---- the law
  module _ (f : Implements) where
    -- one call
    pub record Step (s : List ℕ) (q : CCall Q) : Type 0 where
      pub reads : read (image_next s q) ≡ b.next (read s) q.call
      pub fills : length (image_next s q) ≡ size

    one_step : (s : List ℕ) (q : CCall Q) → length s ≡ size → b.formed q.call q.answer ≡ true → (h : Bool) → b.handed s q.call q.answer ≡ h → Step s q
    unfolding image_next
    one_step s q l e true h = record { reads = rw h (f.reads s q.call q.answer l e h); fills = rw h (f.fills s q.call q.answer l e h) }
    one_step s q l e false h = record { reads = rw h (sym (f.keeps s q.call q.answer l e h)); fills = rw h l }

    step_of : (s : List ℕ) (q : CCall Q) → length s ≡ size → b.formed q.call q.answer ≡ true → Step s q
    step_of s q l e = one_step s q l e (b.handed s q.call q.answer) refl

    malformed_next : (s : List ℕ) (q : CCall Q) → length s ≡ size → b.formed q.call q.answer ≡ false → image_next s q ≡ s
    unfolding image_next
    malformed_next s q l e = rw (f.malformed s q.call q.answer l e).1

    one_more : (s : List ℕ) (q : CCall Q) (qs : List (CCall Q)) → length s ≡ size → (t : Bool) → b.formed q.call q.answer ≡ t
        → ((s : List ℕ) → length s ≡ size → Simulates s qs) → Simulates s (q ∷ qs)
    unfolding image_after well_formed_of accepted_calls record_after accepted
    one_more s q qs l false e ih =
        let n = malformed_next s q l e in
        let z = (f.malformed s q.call q.answer l e).0 in
        let g = ih s l in
        record { reads = rw (e, n) g.reads; fills = rw n g.fills; calls = rw (e, z, n) g.calls }
    one_more s q qs l true e ih =
        let d = step_of s q l e in
        let g = ih (image_next s q) d.fills in
        record {
          reads = rw e (g.reads ∙ ap (λ (c : C). record_after c (well_formed_of qs)) d.reads);
          fills = g.fills;
          calls = rw (e, f.returns s q.call q.answer l e, g.calls, d.reads);
        }

    -- THE RECORD OF THE LAST IMAGE is the record after the same calls, and the calls that return 0 are those that are accepted
    pub simulates : (qs : List (CCall Q)) (s : List ℕ) → length s ≡ size → Simulates s qs
    unfolding image_after well_formed_of accepted_calls record_after accepted
    simulates [] s l = record { reads = refl; fills = l; calls = refl }
    simulates (q ∷ qs) s l = one_more s q qs l (b.formed q.call q.answer) refl (simulates qs)

    -- WHAT THE ANSWERS REPORT is what the calls make: w of an answer that is accepted is W, and W of a refused call is 0
    module _ (w : List ℕ → ℕ) (W : C → Q → ℕ)
        (one : (s : List ℕ) (q : Q) (a : List ℕ) → b.returned s q a ≡ 0 → w (b.left s q a) ≡ W (read s) q)
        (none : (c : C) (q : Q) → (b.refusal c q ≡ 0 → ⊥) → W c q ≡ 0) where
      reported_one : (s : List ℕ) (q : CCall Q) → length s ≡ size → b.formed q.call q.answer ≡ true
          → cond (eqb (b.returned s q.call q.answer) 0) (w (b.left s q.call q.answer)) 0 ≡ W (read s) q.call
      reported_one s q l e = go (eqb (b.returned s q.call q.answer) 0) refl
        where
          go : (t : Bool) → eqb (b.returned s q.call q.answer) 0 ≡ t → cond (eqb (b.returned s q.call q.answer) 0) (w (b.left s q.call q.answer)) 0 ≡ W (read s) q.call
          go true t = rw t (one s q.call q.answer (eqb-true (b.returned s q.call q.answer) 0 t))
          go false t =
              rw t (sym (none (read s) q.call (λ z. eqb-false (b.returned s q.call q.answer) 0 t (f.returns s q.call q.answer l e ∙ z))))

      pub reported_is : (qs : List (CCall Q)) (s : List ℕ) → length s ≡ size → reported w s qs ≡ total W (read s) (well_formed_of qs)
      unfolding reported total well_formed_of
      reported_is [] s l = refl
      reported_is (q ∷ qs) s l = go (b.formed q.call q.answer) refl (λ r m. reported_is qs r m)
        where
          go : (t : Bool) → b.formed q.call q.answer ≡ t → ((r : List ℕ) → length r ≡ size → reported w r qs ≡ total W (read r) (well_formed_of qs))
              → cond (eqb (b.returned s q.call q.answer) 0) (w (b.left s q.call q.answer)) 0 + reported w (image_next s q) qs
              ≡ total W (read s) (cond (b.formed q.call q.answer) (q.call ∷ well_formed_of qs) (well_formed_of qs))
          go false e ih = rw (e, (f.malformed s q.call q.answer l e).0, malformed_next s q l e, zero-add) (ih s l)
          go true e ih =
              let d = step_of s q l e in
              rw (e, reported_one s q l e, ih (image_next s q) d.fills, d.reads)

-- ON AN IMAGE OF ANOTHER LENGTH, where a kind of call is refused for it, every call is, and the image stays
module _ {C Q : Type 0} {size : ℕ} {read : List ℕ → C} (b : Calls size read Q) (refused : (s : List ℕ) (q : Q) (a : List ℕ) → eqb (length s) size ≡ false → b.handed s q a ≡ false) where
  pub image_stays : (qs : List (CCall Q)) (s : List ℕ) → eqb (length s) size ≡ false → image_after b s qs ≡ s
  unfolding image_after image_next
  image_stays [] s n = refl
  image_stays (q ∷ qs) s n = rw (refused s q.call q.answer n) (image_stays qs s n)

-- ---- calls of two kinds in one list
module _ {C Q Q' : Type 0} {size : ℕ} {read : List ℕ → C} (b : Calls size read Q) (b' : Calls size read Q') where
  abbrev pub or_else : Calls size read (Q ⊎ Q')
  or_else = record {
    formed = λ q a. ⊎_elim (λ p. b.formed p a) (λ p. b'.formed p a) q;
    returned = λ s q a. ⊎_elim (λ p. b.returned s p a) (λ p. b'.returned s p a) q;
    left = λ s q a. ⊎_elim (λ p. b.left s p a) (λ p. b'.left s p a) q;
    handed = λ s q a. ⊎_elim (λ p. b.handed s p a) (λ p. b'.handed s p a) q;
    refusal = λ c q. ⊎_elim (λ p. b.refusal c p) (λ p. b'.refusal c p) q;
    next = λ c q. ⊎_elim (λ p. b.next c p) (λ p. b'.next c p) q;
  }

  pub both_implement : Implements b → Implements b' → Implements or_else
  both_implement f g = record { malformed = malformed; returns = returns; reads = reads; fills = fills; keeps = keeps }
    where
      malformed : (s : List ℕ) (q : Q ⊎ Q') (a : List ℕ) → length s ≡ size → or_else.formed q a ≡ false → (or_else.returned s q a ≡ N.bad_length) × (or_else.handed s q a ≡ false)
      malformed s (inl p) a l e = f.malformed s p a l e
      malformed s (inr p) a l e = g.malformed s p a l e

      returns : (s : List ℕ) (q : Q ⊎ Q') (a : List ℕ) → length s ≡ size → or_else.formed q a ≡ true → or_else.returned s q a ≡ or_else.refusal (read s) q
      returns s (inl p) a l e = f.returns s p a l e
      returns s (inr p) a l e = g.returns s p a l e

      reads : (s : List ℕ) (q : Q ⊎ Q') (a : List ℕ) → length s ≡ size → or_else.formed q a ≡ true → or_else.handed s q a ≡ true → read (take size (or_else.left s q a)) ≡ or_else.next (read s) q
      reads s (inl p) a l e h = f.reads s p a l e h
      reads s (inr p) a l e h = g.reads s p a l e h

      fills : (s : List ℕ) (q : Q ⊎ Q') (a : List ℕ) → length s ≡ size → or_else.formed q a ≡ true → or_else.handed s q a ≡ true → length (take size (or_else.left s q a)) ≡ size
      fills s (inl p) a l e h = f.fills s p a l e h
      fills s (inr p) a l e h = g.fills s p a l e h

      keeps : (s : List ℕ) (q : Q ⊎ Q') (a : List ℕ) → length s ≡ size → or_else.formed q a ≡ true → or_else.handed s q a ≡ false → or_else.next (read s) q ≡ read s
      keeps s (inl p) a l e h = f.keeps s p a l e h
      keeps s (inr p) a l e h = g.keeps s p a l e h

-- ---- a kind of call whose answer is handed on where it returns 0, such as a step or a build: what is to be shown of it
module _ {C Q : Type 0} {size : ℕ} {read : List ℕ → C} (b : Calls size read Q) where
  pub record Plain : Type 0 where
    -- the number is `length` where the lengths are wrong
    pub returned_is : (s : List ℕ) (q : Q) (a : List ℕ) → length s ≡ size → b.returned s q a ≡ after_lengths (b.formed q a) (b.refusal (read s) q)
    pub handed_is : (s : List ℕ) (q : Q) (a : List ℕ) → b.handed s q a ≡ eqb (b.returned s q a) 0
    pub accepted_reads : (s : List ℕ) (q : Q) (a : List ℕ) → b.returned s q a ≡ 0 → read (take size (b.left s q a)) ≡ b.next (read s) q
    pub accepted_fills : (s : List ℕ) (q : Q) (a : List ℕ) → b.returned s q a ≡ 0 → length (take size (b.left s q a)) ≡ size
    pub refused_keeps : (c : C) (q : Q) → (b.refusal c q ≡ 0 → ⊥) → b.next c q ≡ c

  pub plain_implements : Plain → Implements b
  plain_implements p = record { malformed = malformed; returns = returns; reads = reads; fills = fills; keeps = keeps }
    where
      malformed : (s : List ℕ) (q : Q) (a : List ℕ) → length s ≡ size → b.formed q a ≡ false → (b.returned s q a ≡ N.bad_length) × (b.handed s q a ≡ false)
      malformed s q a l e =
          let z : b.returned s q a ≡ N.bad_length = unfold after_lengths in rw e at (p.returned_is s q a l) in
          (z, p.handed_is s q a ∙ rw z)

      returns : (s : List ℕ) (q : Q) (a : List ℕ) → length s ≡ size → b.formed q a ≡ true → b.returned s q a ≡ b.refusal (read s) q
      returns s q a l e = unfold after_lengths in rw e at (p.returned_is s q a l)

      zero_returned : (s : List ℕ) (q : Q) (a : List ℕ) → b.handed s q a ≡ true → b.returned s q a ≡ 0
      zero_returned s q a h = eqb-true (b.returned s q a) 0 (sym (p.handed_is s q a) ∙ h)

      reads : (s : List ℕ) (q : Q) (a : List ℕ) → length s ≡ size → b.formed q a ≡ true → b.handed s q a ≡ true → read (take size (b.left s q a)) ≡ b.next (read s) q
      reads s q a l e h = p.accepted_reads s q a (zero_returned s q a h)

      fills : (s : List ℕ) (q : Q) (a : List ℕ) → length s ≡ size → b.formed q a ≡ true → b.handed s q a ≡ true → length (take size (b.left s q a)) ≡ size
      fills s q a l e h = p.accepted_fills s q a (zero_returned s q a h)

      keeps : (s : List ℕ) (q : Q) (a : List ℕ) → length s ≡ size → b.formed q a ≡ true → b.handed s q a ≡ false → b.next (read s) q ≡ read s
      keeps s q a l e h = p.refused_keeps (read s) q (λ z. eqb-false (b.returned s q a) 0 (sym (p.handed_is s q a) ∙ h) (returns s q a l e ∙ z))

-- ---- a kind of call whose answer is handed on where it is written, as that of a run that is refused after a row: what is to be shown of it
module _ {C Q : Type 0} {size : ℕ} {read : List ℕ → C} (b : Calls size read Q) (written : C → Q → Bool) where
  pub record WritesOn : Type 0 where
    -- the number is `length` where the lengths are wrong
    pub returned_is : (s : List ℕ) (q : Q) (a : List ℕ) → length s ≡ size → b.returned s q a ≡ after_lengths (b.formed q a) (b.refusal (read s) q)
    pub handed_is : (s : List ℕ) (q : Q) (a : List ℕ) → length s ≡ size → b.handed s q a ≡ b.formed q a && written (read s) q
    pub written_reads : (s : List ℕ) (q : Q) (a : List ℕ) → length s ≡ size → b.formed q a ≡ true → written (read s) q ≡ true → read (take size (b.left s q a)) ≡ b.next (read s) q
    pub written_fills : (s : List ℕ) (q : Q) (a : List ℕ) → length s ≡ size → b.formed q a ≡ true → written (read s) q ≡ true → length (take size (b.left s q a)) ≡ size
    pub unwritten_keeps : (c : C) (q : Q) → written c q ≡ false → b.next c q ≡ c

  pub writes_on_implements : WritesOn → Implements b
  writes_on_implements p = record { malformed = malformed; returns = returns; reads = reads; fills = fills; keeps = keeps }
    where
      malformed : (s : List ℕ) (q : Q) (a : List ℕ) → length s ≡ size → b.formed q a ≡ false → (b.returned s q a ≡ N.bad_length) × (b.handed s q a ≡ false)
      malformed s q a l e = (unfold after_lengths in rw e at (p.returned_is s q a l), rw e at (p.handed_is s q a l))

      returns : (s : List ℕ) (q : Q) (a : List ℕ) → length s ≡ size → b.formed q a ≡ true → b.returned s q a ≡ b.refusal (read s) q
      returns s q a l e = unfold after_lengths in rw e at (p.returned_is s q a l)

      written_is : (s : List ℕ) (q : Q) (a : List ℕ) → length s ≡ size → b.formed q a ≡ true → b.handed s q a ≡ written (read s) q
      written_is s q a l e = rw e at (p.handed_is s q a l)

      reads : (s : List ℕ) (q : Q) (a : List ℕ) → length s ≡ size → b.formed q a ≡ true → b.handed s q a ≡ true → read (take size (b.left s q a)) ≡ b.next (read s) q
      reads s q a l e h = p.written_reads s q a l e (sym (written_is s q a l e) ∙ h)

      fills : (s : List ℕ) (q : Q) (a : List ℕ) → length s ≡ size → b.formed q a ≡ true → b.handed s q a ≡ true → length (take size (b.left s q a)) ≡ size
      fills s q a l e h = p.written_fills s q a l e (sym (written_is s q a l e) ∙ h)

      keeps : (s : List ℕ) (q : Q) (a : List ℕ) → length s ≡ size → b.formed q a ≡ true → b.handed s q a ≡ false → b.next (read s) q ≡ read s
      keeps s q a l e h = p.unwritten_keeps (read s) q (sym (written_is s q a l e) ∙ h)

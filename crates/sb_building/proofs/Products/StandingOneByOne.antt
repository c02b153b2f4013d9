-- Products that were judged, and one more.
use Rattle.std.proofs.Common.{◌≡◌, ◌⊎◌, ℕ, List, [], ◌∷◌, ◌++◌, Option, Some, Ok, Err, append_assoc, refl, sym, ap, subst, inl, inr}
use Rattle.std.proofs.lemmas.List.{append-nil}
use Rattle.theory_lists.specs.Members.{Stands}
use Rattle.theory_lists.proofs.Blocks.{stands_before, stands_behind}
use Rattle.sb_fraction.specs.declared.unit.Unit as units
use Rattle.sb_step.specs.Indexed.{Indexed}
use Rattle.sb_model.specs.declared.frame.Frame.{Frame}
use Rattle.sb_place.specs.declared.error.PlaceError.{PlaceError}
use Rattle.sb_place.specs.Judgement.{IsFrameOf}
use Rattle.sb_profile.specs.declared.reading.products.Shaped.{Shaped}
use Rattle.sb_profile.specs.declared.defects.Code.{Code}
use Rattle.sb_profile.specs.declared.defects.Defect.{Defect}
use Rattle.sb_building.specs.declared.judging.standing.Standing.{Standing}
use Rattle.sb_building.specs.Steps.Least.{IsLeastOf}
use Rattle.sb_building.specs.Steps.Standing.{code_of, standing, StandsAs, HasFault, IsJudgedAmong, AreStanding, IsOneMore, AreJudged}
use Rattle.sb_building.proofs.Conditions.OneMore.{either, rises_with, first_rise}

module _ (i : Indexed) (b : Option ℕ) (u : units.Unit) where
  -- before any product
  pub judged_none : (found : Option Defect) → AreJudged i b u [] [] found found
  judged_none found before least = (
    [],
    record {
      rise = λ _. tt;
      standing_are = λ s none. absurd none;
      seen_are = λ n k none. absurd none;
      each = λ p none. absurd none;
    },
    subst (λ xs. IsLeastOf xs found) (sym (append-nil before)) least,
  )

  -- what stands among products stands among more of them
  stands_more : (ps more : List Shaped) (s : Standing) → StandsAs i b u ps s → StandsAs i b u (ps ++ more) s
  stands_more ps more s stands = record {
    product = stands.product;
    f = stands.f;
    among = stands_before stands.product ps more stands.among;
    is = stands.is;
    frame = stands.frame;
  }

  fault_more : (ps more : List Shaped) (n : ℕ) (k : Code) → HasFault i b u ps n k
      → HasFault i b u (ps ++ more) n k
  fault_more ps more n k fault = record {
    product = fault.product;
    fault = fault.fault;
    among = stands_before fault.product ps more fault.among;
    number = fault.number;
    code = fault.code;
    frame = fault.frame;
  }

  module _ (ps : List Shaped) (p : Shaped) (all : List Standing) (seen : List (ℕ × Code))
      (are : AreStanding i b u ps all seen) where
    -- it stands behind them
    with_standing : (f : Frame) → IsFrameOf i p.placement b u (Ok f)
        → AreStanding i b u (ps ++ p ∷ []) (all ++ standing p f ∷ []) seen
    with_standing f frame = record {
      rise = λ rising.
          rises_with (λ (q : Shaped). q.number) (λ (s : Standing). s.number) ps p all (standing p f) rising
          (are.rise (first_rise (λ (q : Shaped). q.number) ps p rising)) of_number refl;
      standing_are = λ s at. of_standing s (either s (standing p f) all at);
      seen_are = λ n k at. fault_more ps (p ∷ []) n k (are.seen_are n k at);
      each = λ q at. of_product q (either q p ps at);
    }
      where
        of_number : (s : Standing) → Stands s all → (q : Shaped) × Stands q ps × (q.number ≡ s.number)
        of_number s at =
            let stands = are.standing_are s at in
            (stands.product, stands.among, sym (ap (λ (t : Standing). t.number) stands.is))

        of_standing : (s : Standing) → Stands s all ⊎ (s ≡ standing p f) → StandsAs i b u (ps ++ p ∷ []) s
        of_standing s (inl at) = stands_more ps (p ∷ []) s (are.standing_are s at)
        of_standing s (inr is) = record {
          product = p;
          f = f;
          among = stands_behind p ps (p ∷ []) (inl refl);
          is = is;
          frame = frame;
        }

        on : (q : Shaped) → IsJudgedAmong all seen q → IsJudgedAmong (all ++ standing p f ∷ []) seen q
        on q (inl (g, at)) = inl (g, stands_before (standing q g) all (standing p f ∷ []) at)
        on q (inr at) = inr at

        of_product : (q : Shaped) → Stands q ps ⊎ (q ≡ p) → IsJudgedAmong (all ++ standing p f ∷ []) seen q
        of_product q (inl at) = on q (are.each q at)
        of_product q (inr same) =
            inl (
              f,
              subst (λ r. Stands (standing r f) (all ++ standing p f ∷ [])) (sym same)
                  (stands_behind (standing p f) all (standing p f ∷ []) (inl refl)),
            )

    -- or its condition was seen
    with_fault : (e : PlaceError) (k : Code) → IsFrameOf i p.placement b u (Err e) → code_of e ≡ Some k
        → AreStanding i b u (ps ++ p ∷ []) all (seen ++ (p.number, k) ∷ [])
    with_fault e k frame code = record {
      rise = λ rising. are.rise (first_rise (λ (q : Shaped). q.number) ps p rising);
      standing_are = λ s at. stands_more ps (p ∷ []) s (are.standing_are s at);
      seen_are = λ n j at. of_seen n j (either (n, j) (p.number, k) seen at);
      each = λ q at. of_product q (either q p ps at);
    }
      where
        here : HasFault i b u (ps ++ p ∷ []) p.number k
        here = record {
          product = p;
          fault = e;
          among = stands_behind p ps (p ∷ []) (inl refl);
          number = refl;
          code = code;
          frame = frame;
        }

        of_seen : (n : ℕ) (j : Code) → Stands (n, j) seen ⊎ ◌≡◌ {A = ℕ × Code} (n, j) (p.number, k)
            → HasFault i b u (ps ++ p ∷ []) n j
        of_seen n j (inl at) = fault_more ps (p ∷ []) n j (are.seen_are n j at)
        of_seen n j (inr same) = subst (λ x. HasFault i b u (ps ++ p ∷ []) x.0 x.1) (sym same) here

        on : (q : Shaped) → IsJudgedAmong all seen q → IsJudgedAmong all (seen ++ (p.number, k) ∷ []) q
        on q (inl at) = inl at
        on q (inr (j, at)) = inr (j, stands_before (q.number, j) seen ((p.number, k) ∷ []) at)

        of_product : (q : Shaped) → Stands q ps ⊎ (q ≡ p) → IsJudgedAmong all (seen ++ (p.number, k) ∷ []) q
        of_product q (inl at) = on q (are.each q at)
        of_product q (inr same) =
            inr (
              k,
              subst (λ r. Stands (r.number, k) (seen ++ (p.number, k) ∷ [])) (sym same)
                  (stands_behind (p.number, k) seen ((p.number, k) ∷ []) (inl refl)),
            )

  pub judged_more : (ps : List Shaped) (p : Shaped) (old new : List Standing)
      (start found then_found : Option Defect) → AreJudged i b u ps old start found
      → IsOneMore i b u p old new found then_found → AreJudged i b u (ps ++ p ∷ []) new start then_found
  judged_more ps p old new start found then_found judged (inl (f, frame, is, same)) before least =
      let (seen, are, now_least) = judged before least in (
        seen,
        subst (λ all. AreStanding i b u (ps ++ p ∷ []) all seen) (sym is)
            (with_standing ps p old seen are f frame),
        subst (IsLeastOf (before ++ seen)) (sym same) now_least,
      )
  judged_more ps p old new start found then_found judged (inr (e, k, frame, code, is, more)) before least =
      let (seen, are, now_least) = judged before least in (
        seen ++ (p.number, k) ∷ [],
        subst (λ all. AreStanding i b u (ps ++ p ∷ []) all (seen ++ (p.number, k) ∷ [])) (sym is)
            (with_fault ps p old seen are e k frame code),
        subst (λ xs. IsLeastOf xs then_found) (append_assoc before seen ((p.number, k) ∷ []))
            (more (before ++ seen) now_least),
      )

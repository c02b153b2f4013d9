-- What is kept of a placement is kept of its whole chain.
use Rattle.std.proofs.Common.{◌≡◌, ℕ, nat_eq, Bool, true, false, not, List, [], ◌∷◌, Option, Some, None, Result, is_some, arith, refl, sym, ap, ◌∙◌, subst}
use Rattle.std.specs.Prelude.{IfOk, if◌then◌else◌}
use Rattle.std.proofs.lemmas.Bool.{false≢true}
use Rattle.std.proofs.lemmas.Bool.Decides.{Decides-eqb}
use Rattle.std.proofs.lemmas.Option.{same_Some}
use Rattle.std.proofs.lemmas.Result.{IfOk-weaker}
use Rattle.sb_fraction.specs.declared.unit.Unit as units
use Rattle.sb_step.specs.Indexed.{Indexed}
use Rattle.sb_schema.specs.Rows as rows
use Rattle.sb_schema.specs.Views.{Gives}
use Rattle.sb_place.specs.declared.sight.Seen.{Seen}
use Rattle.sb_place.specs.declared.sight.Seen.TheVariants as seen
use Rattle.sb_place.specs.declared.position.Position.{Position}
use Rattle.sb_place.specs.declared.kept.Placed.{Placed}
use Rattle.sb_place.specs.Positions.{IsSpacePosition}
use Rattle.sb_place.specs.Chains.{Link, IsChain, IsLost, ShowsNext, is_at}
use Rattle.sb_place.specs.Kept.{IsKept, IsKeptOf}
use Rattle.sb_building.specs.Frames.{AreKnown, IsKeptWhere}

module _ (indexed : Indexed) (building : Option ℕ) (u : units.Unit) where
  -- above the highest placement
  pub kept_end : (from : Option ℕ) (reached : Bool) (placed : Placed)
      → IsChain indexed building 1 from [] reached → IsKept u [] reached placed
      → IsKeptOf indexed building u from placed
  kept_end from reached placed ends kept = record {
    links = [];
    reached = reached;
    chain = ends;
    kept = kept;
  }

  -- from a placement of which nothing follows
  pub kept_lost : (n : ℕ) (l : Link) (placed : Placed) → is_at building n ≡ false
      → ShowsNext indexed n (λ above. IsChain indexed building 1 above [] false) l (IsLost [] false)
      → IsKept u (l ∷ []) false placed → IsKeptOf indexed building u (Some n) placed
  kept_lost n l placed apart shows kept = record {
    links = l ∷ [];
    reached = false;
    chain = (n, refl, apart, (omega arith), shows);
    kept = kept;
  }

  -- a placement on those above it
  pub kept_under : (n axes : ℕ) (relative_to : Option ℕ) (above placed : Placed) (s : Seen Position)
      → is_at building n ≡ false
      → Gives rows.local_placement indexed n (Some (relative_to, (axes, tt)))
      → IsKeptOf indexed building u relative_to above → IsSpacePosition indexed axes s
      → ((links : List Link) (reached : Bool) → IsKept u links reached above
      → IsKept u (seen.Shown s ∷ links) reached placed)
      → IsKeptOf indexed building u (Some n) placed
  kept_under n axes relative_to above placed s apart gives kept sees under = record {
    links = seen.Shown s ∷ kept.links;
    reached = kept.reached;
    chain = (
      n,
      refl,
      apart,
      (omega arith),
      record {
        relative_to = relative_to;
        axes = axes;
        gives = gives;
        position = sees;
        above = subst (λ left. IsChain indexed building left relative_to kept.links kept.reached)
            (omega arith) kept.chain;
      },
    );
    kept = under kept.links kept.reached kept.kept;
  }

  -- ---- what is kept where a reference leads

  pub kept_where : (from : Option ℕ) (placed : Placed) → IsKeptOf indexed building u from placed
      → IsKeptWhere indexed building u from (Some placed)
  kept_where from placed kept other is =
      subst (IsKeptOf indexed building u from) (same_Some placed other is) kept

  -- no placement, and that of the building
  pub where_none : (from : Option ℕ) (reached : Bool) (placed : Placed) → from ≡ None
      → is_some building ≡ not reached → IsKept u [] reached placed
      → IsKeptWhere indexed building u from (Some placed)
  where_none from reached placed none known kept =
      kept_where from placed
      (subst (λ o. IsKeptOf indexed building u o placed) (sym none)
      (kept_end None reached placed (sym (not_not reached) ∙ ap not (sym known)) kept))
    where
      not_not : (b : Bool) → not (not b) ≡ b
      not_not true = refl
      not_not false = refl

  pub where_building : (from : Option ℕ) (n : ℕ) (placed : Placed) → from ≡ Some n
      → is_at building n ≡ true → IsKept u [] true placed
      → IsKeptWhere indexed building u from (Some placed)
  where_building from n placed is at kept =
      kept_where from placed
      (subst (λ o. IsKeptOf indexed building u o placed) (sym is)
      (kept_end (Some n) true placed (sym at, λ e. absurd (false≢true (sym e))) kept))

  -- one placement more is known
  pub one_more : (n : ℕ) (placed : Placed) (known more : ℕ → Option Placed)
      → AreKnown indexed building u known
      → ((q : ℕ) → more q ≡ (if nat_eq q n then Some placed else known q))
      → IsKeptOf indexed building u (Some n) placed → AreKnown indexed building u more
  one_more n placed known more old new kept q other found = by_test (nat_eq q n) refl
    where
      by_test : (b : Bool) → nat_eq q n ≡ b → IsKeptOf indexed building u (Some q) other
      by_test true same =
          subst (λ k. IsKeptOf indexed building u (Some k) other) (sym ((Decides-eqb q n).0 same))
          (subst (IsKeptOf indexed building u (Some n))
          (same_Some placed other (sym (new q ∙ ap (λ b. if b then Some placed else known q) same) ∙ found))
          kept)
      by_test false apart =
          old q other (sym (new q ∙ ap (λ b. if b then Some placed else known q) apart) ∙ found)

  -- what is kept and answered
  pub answered : {E : Type 0} (from : Option ℕ) (n : ℕ) (placed : Placed) (r : Result (Option Placed) E)
      → from ≡ Some n → IsKeptOf indexed building u (Some n) placed
      → IfOk r (λ kept. kept ≡ Some placed) → IfOk r (IsKeptWhere indexed building u from)
  answered from n placed r is kept said =
      IfOk-weaker r (λ o. o ≡ Some placed) (IsKeptWhere indexed building u from)
      (λ o same. subst (IsKeptWhere indexed building u from) (sym same)
      (kept_where from placed (subst (λ f. IsKeptOf indexed building u f placed) (sym is) kept)))
      said

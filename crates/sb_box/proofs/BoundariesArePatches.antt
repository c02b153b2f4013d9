-- What holds of the patches of a box holds of the boundaries that are these patches.
use Rattle.std.proofs.Common.{◌≡◌, refl, sym, ap, ◌∙◌, ℕ, Bool, true, false, ◌&&◌, List, [], ◌∷◌}
use Rattle.std.proofs.Common.{◌==◌, inl, inr, ⊎_elim, subst, is_none}
use Rattle.std.specs.Bool.{MatchBool}
use Rattle.std.specs.List.{AllByRecursion, list_any}
use Rattle.std.proofs.lemmas.Bool.{eq-eqb}
use Rattle.sb_model.specs.declared.boundary.Boundary.{Boundary}
use Rattle.sb_model.specs.declared.faces.face.FaceKind.{FaceKind}
use Rattle.sb_fraction.specs.Spots.{Spot, times_w}
use Rattle.sb_model.specs.Surfaces.Faces.{Surface}
use Rattle.sb_model.specs.Surfaces.Patches.{is_same_kind, is_in_patch}
use Rattle.sb_model.specs.Boundaries.Covers.{is_top_at}
use Rattle.theory_lists.specs.Members.{Stands, AllOfTwo}
use Rattle.theory_lists.specs.OneOf.{ExactlyOne}
use Rattle.theory_models.proofs.PatchesBetweenLevels.{is_in_window, in_levels}
use Rattle.sb_box.specs.declared.extent.Extent.{Extent}
use Rattle.sb_box.specs.BoxList.{BoxPatch, IsBoxBoundary, AreBoxBoundaries}
use Rattle.sb_box.proofs.BoxLabels.{Besides, box_space}
use Rattle.sb_box.proofs.FacesOfBoxes.{lies_in}

-- ---- lists

-- a fact of each patch is one of each boundary
pub all_lift : (n : ℕ) (P : BoxPatch → Type 0) (Q : Boundary → Type 0)
    → ((q : BoxPatch) → (b : Boundary) → IsBoxBoundary n q b → P q → Q b)
    → (qs : List BoxPatch) (list : List Boundary) → AreBoxBoundaries n qs list
    → AllByRecursion P qs → AllByRecursion Q list
all_lift n P Q to [] [] are all = tt
all_lift n P Q to (q ∷ qs) (b ∷ bs) are all =
    (to q b are.0 all.0, all_lift n P Q to qs bs are.1 all.1)
all_lift n P Q to [] (b ∷ bs) are all = absurd are
all_lift n P Q to (q ∷ qs) [] are all = absurd are

any_lift : (n : ℕ) (s : BoxPatch → Bool) (t : Boundary → Bool)
    → ((q : BoxPatch) → (b : Boundary) → IsBoxBoundary n q b → t b ≡ s q)
    → (qs : List BoxPatch) (list : List Boundary) → AreBoxBoundaries n qs list
    → list_any t list ≡ list_any s qs
any_lift n s t same [] [] are = refl
any_lift n s t same (q ∷ qs) (b ∷ bs) are =
    rw (same q b are.0, any_lift n s t same qs bs are.1) refl
any_lift n s t same [] (b ∷ bs) are = absurd are
any_lift n s t same (q ∷ qs) [] are = absurd are

match_same : (b c : Bool) (P Q R S : Type 0) → c ≡ b → (P → R) → (Q → S) → MatchBool b P Q
    → MatchBool c R S
match_same true c P Q R S e to over h = rw e (to h)
match_same false c P Q R S e to over h = rw e (over h)

-- exactly one patch passes a test: so does exactly one boundary
pub one_lift : (n : ℕ) (s : BoxPatch → Bool) (t : Boundary → Bool)
    → ((q : BoxPatch) → (b : Boundary) → IsBoxBoundary n q b → t b ≡ s q)
    → (qs : List BoxPatch) (list : List Boundary) → AreBoxBoundaries n qs list → ExactlyOne s qs
    → ExactlyOne t list
one_lift n s t same [] [] are one = one
one_lift n s t same (q ∷ qs) (b ∷ bs) are one =
    match_same (s q) (t b) (list_any s qs ≡ false) (ExactlyOne s qs) (list_any t bs ≡ false)
    (ExactlyOne t bs)
    (same q b are.0) (λ none. any_lift n s t same qs bs are.1 ∙ none)
    (λ rest. one_lift n s t same qs bs are.1 rest) one
one_lift n s t same [] (b ∷ bs) are one = absurd are
one_lift n s t same (q ∷ qs) [] are one = absurd are

-- a relation of each two patches is one of each two boundaries
pub two_lift : (n : ℕ) (R : BoxPatch → BoxPatch → Type 0) (S : Boundary → Boundary → Type 0)
    → ((p q : BoxPatch) → (b c : Boundary) → IsBoxBoundary n p b → IsBoxBoundary n q c → R p q
    → S b c)
    → (qs : List BoxPatch) (list : List Boundary) → AreBoxBoundaries n qs list → AllOfTwo R qs
    → AllOfTwo S list
two_lift n R S to [] [] are all = tt
two_lift n R S to (q ∷ qs) (b ∷ bs) are all = (
  all_lift n (R q) (S b) (λ p c is r. to q p b c are.0 is r) qs bs are.1 all.0,
  two_lift n R S to qs bs are.1 all.1,
)
two_lift n R S to [] (b ∷ bs) are all = absurd are
two_lift n R S to (q ∷ qs) [] are all = absurd are

-- the patch of a boundary of the list
pub record HasPatch (n : ℕ) (qs : List BoxPatch) (b : Boundary) : Type 0 where
  pub patch : BoxPatch
  pub there : Stands patch qs
  pub is : IsBoxBoundary n patch b

-- each boundary of the list has one
pub has_patch : (n : ℕ) (qs : List BoxPatch) (list : List Boundary) (b : Boundary)
    → AreBoxBoundaries n qs list
    → Stands b list → HasPatch n qs b
has_patch n [] [] b are at = absurd at
has_patch n (q ∷ qs) (c ∷ cs) b are at =
    ⊎_elim
    (λ same. record {
      patch = q;
      there = inl refl;
      is =
          subst (IsBoxBoundary n q) (sym same) are.0;
    })
    (λ later. let h = has_patch n qs cs b are.1
    later in record { patch = h.patch; there = inr h.there; is = h.is })
    at
has_patch n [] (c ∷ cs) b are at = absurd are
has_patch n (q ∷ qs) [] b are at = absurd are

-- ---- points

-- a point lies in the boundary's patch where it lies in the patch's window
pub in_patch_is : (n : ℕ) (f : Surface) (p : Spot) (q : BoxPatch) (b : Boundary)
    → IsBoxBoundary n q b
    → is_in_patch f b.patch p ≡ is_in_window q.low q.high q.lower q.upper (times_w p f.across)
    (times_w p f.up) p.w
in_patch_is n f p q b is =
    in_levels b.patch q.low q.high q.lower q.upper (times_w p f.across)
    (times_w p f.up) p.w is.low is.high is.lower is.upper

tests : (a b c d k l : Bool) → a ≡ true → b ≡ true → c ≡ k → d ≡ l
    → (a && ((b && c) && d)) ≡ (k && l)
tests a b c d k l ea eb ec ed = rw (ea, eb, ec, ed) refl

-- the boundary is a top-level one at the point where the patch contains it
pub top_is : (s : Besides) (n : ℕ) (e : Extent) (k : FaceKind) (f : Surface) (p : Spot)
    (q : BoxPatch) (b : Boundary)
    → IsBoxBoundary n q b → is_top_at (box_space s n e) k f p b ≡ lies_in k f p q
top_is s n e k f p q b is =
    tests (is_none b.parent) (b.patch.face.space == n) (is_same_kind b.patch.face.kind k)
    (is_in_patch f b.patch p)
    (is_same_kind q.kind k) (is_in_window q.low q.high q.lower q.upper (times_w p f.across)
    (times_w p f.up) p.w)
    (ap is_none is.parent) (eq-eqb b.patch.face.space n is.of_space)
    (ap (λ (kind : FaceKind). is_same_kind kind k) is.of_face) (in_patch_is n f p q b is)

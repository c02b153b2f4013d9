-- The coarse label of a point is that of the products that contain it, and a label on which two sides
-- agree is that of all between.
use Rattle.std.proofs.Common.{◌≡◌, refl, sym, ap, ◌∙◌, ℕ, Bool, true, false, IsTrue, Option, Some, None}
use Rattle.std.proofs.Common.{option_map, ℤ, ◌*ℤ◌, int_lt, cond}
use Rattle.std.proofs.lemmas.Option.{none-some}
use Rattle.sb_fraction.specs.Spots.{Spot}
use Rattle.sb_model.specs.declared.labels.label.Label.{Label}
use Rattle.sb_model.specs.declared.labels.label.Label.TheVariants as label
use Rattle.sb_model.specs.declared.products.Space.{Space}
use Rattle.sb_model.specs.declared.products.Element.{Element}
use Rattle.sb_model.specs.Solids.{is_in_solid}
use Rattle.sb_model.specs.Building.{Building, is_building}
use Rattle.sb_model.specs.Labels.{lowest, label_at, space_label, element_label, open_label}
use Rattle.sb_model.specs.Labels.{space_at, element_at}
use Rattle.theory_cuttings.specs.Columns.{SeesBetween}
use Rattle.theory_models.proofs.NumbersApart.{own_numbers}
use Rattle.theory_sight.specs.Coarse.{coarse, IsOpen, element_or, space_or, stacked}
use Rattle.theory_sight.specs.Coarse.{the_space, the_element, the_ground, label_of_present}
use Rattle.theory_sight.proofs.LowestBetween.{between_lowest}

-- earth and air are without layers
coarse-bare : (l : Label) → IsOpen l → coarse l ≡ l
coarse-bare label.Earth is = refl
coarse-bare label.Void is = refl
coarse-bare (label.Space n) is = absurd is
coarse-bare (label.Element n layer) is = absurd is

-- at a point without products it is earth or air
pub open_is_open : (ground : ℤ) (p : Spot) → IsOpen (open_label ground p)
open_is_open ground p = by (int_lt p.z (ground *ℤ p.w))
  where
    by : (b : Bool) → IsOpen (cond b label.Earth label.Void)
    by true = tt
    by false = tt

-- the coarse label of a point
pub coarse_is_stacked : (m : Building) (p : Spot)
    → coarse (label_at m p)
    ≡ stacked m (λ s. is_in_solid s.prism p) (λ e. is_in_solid e.prism p)
    (open_label m.ground_height p)
coarse_is_stacked m p = of_space (space_at m p)
  where
    of_element : (o : Option Element)
        → coarse (element_label m.ground_height p o) ≡ element_or (open_label m.ground_height p) o
    of_element None = coarse-bare (open_label m.ground_height p) (open_is_open m.ground_height p)
    of_element (Some e) = refl

    of_space : (o : Option Space)
        → coarse (space_label m p o)
        ≡ space_or (element_or (open_label m.ground_height p) (element_at m p)) o
    of_space (Some s) = refl
    of_space None = of_element (element_at m p)

-- ---- between two sides

-- a label of a space is not one of an element, of earth or of air
space_or_else : (n : ℕ) (bare : Label) (o : Option Element) → IsOpen bare
    → label.Space n ≡ element_or bare o → ⊥
space_or_else n bare None open_is same = clash bare open_is same
  where
    clash : (l : Label) → IsOpen l → label.Space n ≡ l → ⊥
    clash label.Earth is same = cc
    clash label.Void is same = cc
    clash (label.Space k) is same = is
    clash (label.Element k layer) is same = is
space_or_else n bare (Some e) open_is same = cc

element_or_else : (n : ℕ) (bare : Label) → IsOpen bare → label.Element n 0 ≡ bare → ⊥
element_or_else n label.Earth is same = cc
element_or_else n label.Void is same = cc
element_or_else n (label.Space k) is same = is
element_or_else n (label.Element k layer) is same = is

-- one label of elements or bare ground: one number of elements, and one bare label where there is none
same_elements : (a b : Label) (o q : Option Element) → IsOpen a → IsOpen b
    → element_or a o ≡ element_or b q
    → option_map (λ e. e.number) o ≡ option_map (λ e. e.number) q
same_elements a b None None a_is b_is same = refl
same_elements a b None (Some e) a_is b_is same =
    absurd (element_or_else e.number a a_is (sym same))
same_elements a b (Some e) None a_is b_is same = absurd (element_or_else e.number b b_is same)
same_elements a b (Some e) (Some f) a_is b_is same = let n : e.number ≡ f.number = cc in ap Some n

same_spaces : (a b : Label) (x y : Option Element) (o q : Option Space) → IsOpen a → IsOpen b
    → space_or (element_or a x) o ≡ space_or (element_or b y) q
    → option_map (λ s. s.number) o ≡ option_map (λ s. s.number) q
same_spaces a b x y None None a_is b_is same = refl
same_spaces a b x y None (Some s) a_is b_is same =
    absurd (space_or_else s.number a x a_is (sym same))
same_spaces a b x y (Some s) None a_is b_is same = absurd (space_or_else s.number b y b_is same)
same_spaces a b x y (Some s) (Some t) a_is b_is same =
    let n : s.number ≡ t.number = cc in ap Some n

-- the space of both sides, the element of both sides, or what is bare on both
pub stacked_between : (m : Building) → IsTrue (is_building m) → (p q r : Space → Bool)
    (d e f : Element → Bool) (a b c : Label) → IsOpen a → IsOpen b
    → ((x : Space) → p x ≡ q x → r x ≡ p x) → ((x : Element) → d x ≡ e x → f x ≡ d x)
    → (a ≡ b → c ≡ a) → stacked m p d a ≡ stacked m q e b → stacked m r f c ≡ stacked m p d a
stacked_between m is p q r d e f a b c a_is b_is spaces elements bare same =
    let own = own_numbers m is in
    let one =
    between_lowest (λ s. s.number) p q r spaces m.spaces own.spaces.rise
    (same_spaces a b (lowest (λ x. x.number) d m.elements) (lowest (λ x. x.number) e m.elements)
    (lowest (λ s. s.number) p m.spaces) (lowest (λ s. s.number) q m.spaces) a_is b_is same)
    in
    ap (space_or (element_or c (lowest (λ x. x.number) f m.elements))) one
    ∙ rest (lowest (λ s. s.number) p m.spaces) (lowest (λ s. s.number) q m.spaces)
    (same_spaces a b (lowest (λ x. x.number) d m.elements) (lowest (λ x. x.number) e m.elements)
    (lowest (λ s. s.number) p m.spaces) (lowest (λ s. s.number) q m.spaces) a_is b_is same) same
  where
    of_elements : (o : Option Element) → lowest (λ x. x.number) f m.elements ≡ o
        → (o ≡ None → a ≡ b) → element_or c o ≡ element_or a o
    of_elements None found none = bare (none refl)
    of_elements (Some x) found none = refl

    none_of_both : (o q : Option Element)
        → option_map (λ x. x.number) o ≡ option_map (λ x. x.number) q
        → element_or a o ≡ element_or b q → o ≡ None → a ≡ b
    none_of_both None None numbers same none = same
    none_of_both None (Some x) numbers same none = absurd (none-some x.number numbers)
    none_of_both (Some x) q numbers same none = absurd (none-some x (sym none))

    rest : (o o' : Option Space) → option_map (λ s. s.number) o ≡ option_map (λ s. s.number) o'
        → space_or (element_or a (lowest (λ x. x.number) d m.elements)) o
        ≡ space_or (element_or b (lowest (λ x. x.number) e m.elements)) o'
        → space_or (element_or c (lowest (λ x. x.number) f m.elements)) o
        ≡ space_or (element_or a (lowest (λ x. x.number) d m.elements)) o
    rest (Some s) o' numbers same = refl
    rest None (Some t) numbers same = absurd (none-some t.number numbers)
    rest None None numbers same =
        let own = own_numbers m is in
        let numbers_are =
        same_elements a b (lowest (λ x. x.number) d m.elements)
        (lowest (λ x. x.number) e m.elements) a_is b_is same
        in
        let one =
        between_lowest (λ x. x.number) d e f elements m.elements own.elements.rise numbers_are
        in
        of_elements (lowest (λ x. x.number) f m.elements) refl
        (λ none.
        none_of_both (lowest (λ x. x.number) d m.elements) (lowest (λ x. x.number) e m.elements)
        numbers_are same (sym one ∙ none))
        ∙ ap (element_or a) one

-- the label of what is present sees between two sides
pub label_sees_between : (m : Building) → IsTrue (is_building m) → (bare : Bool → Label)
    → ((b : Bool) → IsOpen (bare b)) → SeesBetween (label_of_present m bare)
label_sees_between m is bare open_is before between after alike same =
    stacked_between m is (λ s. before (the_space s)) (λ s. after (the_space s))
    (λ s. between (the_space s)) (λ e. before (the_element e)) (λ e. after (the_element e))
    (λ e. between (the_element e)) (bare (before the_ground)) (bare (after the_ground))
    (bare (between the_ground)) (open_is (before the_ground)) (open_is (after the_ground))
    (λ s. alike (the_space s)) (λ e. alike (the_element e))
    (ground (before the_ground) (after the_ground) (between the_ground) (alike the_ground)) same
  where
    ground : (b c d : Bool) → (b ≡ c → d ≡ b) → bare b ≡ bare c → bare d ≡ bare b
    ground true true d alike same = ap bare (alike refl)
    ground false false d alike same = ap bare (alike refl)
    ground true false true alike same = refl
    ground true false false alike same = sym same
    ground false true true alike same = sym same
    ground false true false alike same = refl

-- What is taken out of three lists of products is the product that comes first.

use Rattle.std.proofs.Common.{◌≡◌, refl, sym, ap, ap₂, ◌∙◌, subst, arith, ℕ, ◌<◌, ◌+◌, IsTrue, List, []}
use Rattle.std.proofs.Common.{◌∷◌, ◌++◌, map, length}
use Rattle.std.proofs.lemmas.List.{length-append, length-map}
use Rattle.theory_plans.specs.LoopEdges.{edges_of}
use Rattle.theory_plans.specs.Plans.{is_plan}
use Rattle.sb_model.specs.Solids.{Upright, is_upright}
use Rattle.sb_model.specs.PlanEdges.{product, in_order, edges_in}
use Rattle.sb_model.specs.declared.products.Space.{Space}
use Rattle.sb_model.specs.declared.products.Element.{Element}
use Rattle.sb_model.specs.declared.products.Opening.{Opening}
use Rattle.theory_models.proofs.EdgesOfProducts.{plan_of_solid}
use Rattle.sb_model.specs.Building.{Building, is_building}
use Rattle.theory_models.proofs.NumbersApart.{of_space, of_element, of_opening, own_numbers}
use Rattle.sb_frame.specs.Owners.{Queues, queues, AreRising, products_in, first_of, IsTaken, edge_in}
use Rattle.sb_frame.specs.Owners.{own_edges}
use Rattle.sb_frame.specs.declared.owners.Owner.{Owner}
use Rattle.sb_frame.specs.declared.owners.Kind.TheVariants as kind
use Rattle.sb_frame.proofs.Products.LeastComesFirst.{space_first, element_first, opening_first}
use Rattle.sb_frame.proofs.Products.LeastComesFirst.{none_of_spaces, none_of_elements, none_of_openings}

-- the edges of the product with this number and prism
same_edges : (o : Owner) (number : ℕ) (prism : Upright) → o.number ≡ number
    → o.loops.now ≡ prism.loops → map (edge_in number) (edges_of prism.loops) ≡ own_edges o
same_edges o number prism same_number same_loops =
    ap₂ (λ n loops. map (edge_in n) (edges_of loops)) (sym same_number) (sym same_loops)

solid_plan : (o : Owner) (prism : Upright) → IsTrue (is_upright prism) → o.loops.now ≡ prism.loops
    → IsTrue (is_plan o.loops.now)
solid_plan o prism solid same =
    subst (λ loops. IsTrue (is_plan loops)) (sym same) (plan_of_solid prism solid)

-- how many products the three lists have
count : (q : Queues)
    → length (products_in q) ≡ (length q.spaces + length q.elements) + length q.openings
count q =
    length-append (map of_space q.spaces ++ map of_element q.elements) (map of_opening q.openings)
    ∙ ap₂ (λ m n. m + n)
    (length-append (map of_space q.spaces) (map of_element q.elements)
    ∙ ap₂ (λ m n. m + n) (length-map q.spaces of_space) (length-map q.elements of_element))
    (length-map q.openings of_opening)

module _ (o : Owner) where
  taken : (number : ℕ) (prism : Upright) (old new : Queues) → o.number ≡ number
      → o.loops.now ≡ prism.loops → IsTrue (is_upright prism)
      → in_order (products_in old) ≡ product number prism ∷ in_order (products_in new)
      → length (products_in new) < length (products_in old) → IsTaken o old new
  taken number prism old new same_number same_loops solid first shorter =
      record {
        edges =
            ap edges_in first
            ∙ ap (λ es. es ++ edges_in (in_order (products_in new)))
            (same_edges o number prism same_number same_loops);
        shorter = shorter;
        plan = solid_plan o prism solid same_loops;
      }

  pub space_taken : (all : List Space) (s : Space) (ss : List Space) (es : List Element)
      (os : List Opening) → AreRising (queues all es os)
      → first_of (queues all es os) ≡ kind.Space → all ≡ s ∷ ss
      → o.number ≡ s.number → o.loops.now ≡ s.prism.loops
      → IsTaken o (queues all es os) (queues ss es os)
  space_taken all s ss es os rising first split same_number same_loops =
      subst (λ (ps : List Space). AreRising (queues ps es os)
      → first_of (queues ps es os) ≡ kind.Space → IsTaken o (queues ps es os) (queues ss es os))
      (sym split)
      (λ rises is.
      taken s.number s.prism (queues (s ∷ ss) es os) (queues ss es os) same_number same_loops s.is_solid
      (space_first s ss es os rises is)
      (let old = count (queues (s ∷ ss) es os) in let new = count (queues ss es os) in omega arith))
      rising first

  pub element_taken : (all : List Element) (ss : List Space) (e : Element) (es : List Element)
      (os : List Opening) → AreRising (queues ss all os)
      → first_of (queues ss all os) ≡ kind.Element → all ≡ e ∷ es
      → o.number ≡ e.number → o.loops.now ≡ e.prism.loops
      → IsTaken o (queues ss all os) (queues ss es os)
  element_taken all ss e es os rising first split same_number same_loops =
      subst (λ (ps : List Element). AreRising (queues ss ps os)
      → first_of (queues ss ps os) ≡ kind.Element → IsTaken o (queues ss ps os) (queues ss es os))
      (sym split)
      (λ rises is.
      taken e.number e.prism (queues ss (e ∷ es) os) (queues ss es os) same_number same_loops e.is_solid
      (element_first ss e es os rises is)
      (let old = count (queues ss (e ∷ es) os) in let new = count (queues ss es os) in omega arith))
      rising first

  pub opening_taken : (all : List Opening) (ss : List Space) (es : List Element) (p : Opening)
      (os : List Opening) → AreRising (queues ss es all)
      → first_of (queues ss es all) ≡ kind.Opening → all ≡ p ∷ os
      → o.number ≡ p.number → o.loops.now ≡ p.prism.loops
      → IsTaken o (queues ss es all) (queues ss es os)
  opening_taken all ss es p os rising first split same_number same_loops =
      subst (λ (ps : List Opening). AreRising (queues ss es ps)
      → first_of (queues ss es ps) ≡ kind.Opening → IsTaken o (queues ss es ps) (queues ss es os))
      (sym split)
      (λ rises is.
      taken p.number p.prism (queues ss es (p ∷ os)) (queues ss es os) same_number same_loops p.is_solid
      (opening_first ss es p os rises is)
      (let old = count (queues ss es (p ∷ os)) in let new = count (queues ss es os) in omega arith))
      rising first

-- ---- nothing is left

none_of : {X : Type 0} (xs : List X) → length xs ≡ 0 → xs ≡ []
none_of [] none = refl
none_of (x ∷ xs) none = absurd (omega arith)

pub no_space : (q : Queues) → first_of q ≡ kind.Space → length q.spaces ≡ 0 → products_in q ≡ []
no_space q first none =
    subst (λ (ps : List Space). first_of (queues ps q.elements q.openings) ≡ kind.Space
    → products_in (queues ps q.elements q.openings) ≡ []) (sym (none_of q.spaces none))
    (none_of_spaces q.elements q.openings) first

pub no_element : (q : Queues) → first_of q ≡ kind.Element → length q.elements ≡ 0
    → products_in q ≡ []
no_element q first none =
    absurd
    (subst (λ (ps : List Element). first_of (queues q.spaces ps q.openings) ≡ kind.Element → ⊥)
    (sym (none_of q.elements none)) (none_of_elements q.spaces q.openings) first)

pub no_opening : (q : Queues) → first_of q ≡ kind.Opening → length q.openings ≡ 0
    → products_in q ≡ []
no_opening q first none =
    absurd
    (subst (λ (ps : List Opening). first_of (queues q.spaces q.elements ps) ≡ kind.Opening → ⊥)
    (sym (none_of q.openings none)) (none_of_openings q.spaces q.elements) first)

-- ---- rising

pub rising_without_space : (all : List Space) (s : Space) (ss : List Space) (es : List Element)
    (os : List Opening) → AreRising (queues all es os) → all ≡ s ∷ ss → AreRising (queues ss es os)
rising_without_space all s ss es os rising split =
    let rises = subst (λ (ps : List Space). AreRising (queues ps es os)) split rising in
    record { spaces = rises.spaces.1; elements = rises.elements; openings = rises.openings }

pub rising_without_element : (all : List Element) (ss : List Space) (e : Element) (es : List Element)
    (os : List Opening) → AreRising (queues ss all os) → all ≡ e ∷ es → AreRising (queues ss es os)
rising_without_element all ss e es os rising split =
    let rises = subst (λ (ps : List Element). AreRising (queues ss ps os)) split rising in
    record { spaces = rises.spaces; elements = rises.elements.1; openings = rises.openings }

pub rising_without_opening : (all : List Opening) (ss : List Space) (es : List Element) (p : Opening)
    (os : List Opening) → AreRising (queues ss es all) → all ≡ p ∷ os → AreRising (queues ss es os)
rising_without_opening all ss es p os rising split =
    let rises = subst (λ (ps : List Opening). AreRising (queues ss es ps)) split rising in
    record { spaces = rises.spaces; elements = rises.elements; openings = rises.openings.1 }

-- in each list of a model the numbers rise
pub rising_of_model : (m : Building) → IsTrue (is_building m)
    → AreRising (queues m.spaces m.elements m.openings)
rising_of_model m is =
    let own = own_numbers m is in
    record { spaces = own.spaces.rise; elements = own.elements.rise; openings = own.openings.rise }

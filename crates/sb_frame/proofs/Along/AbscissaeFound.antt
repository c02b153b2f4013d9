-- What is found along a direction, rising and each once, are its abscissae.

use Rattle.std.proofs.Common.{◌≡◌, ◌⊎◌, inl, inr, refl, sym, ap, ◌∙◌, subst, pos}
use Rattle.std.proofs.Common.{IsTrue, true, List, [], ◌∷◌, map, Result, Ok, Err, IfOk}
use Rattle.std.specs.declared.alloc.AllocError.{AllocError}
use Rattle.std.specs.List.{list_any, list_all, AllByRecursion}
use Rattle.sb_fraction.specs.Bounds.{is_abscissa_size}
use Rattle.std.specs.Ordering.{int_eq}
use Rattle.std.specs.declared.cmp.Ordering.TheVariants.{Less, Equal}
use Rattle.std.proofs.lemmas.Bool.{and_parts, and_from, or_cases}
use Rattle.std.proofs.lemmas.Bool.Decides.{Decides-int_eq}
use Rattle.theory_lists.specs.Members.{Stands, AllOfTwo}
use Rattle.theory_lists.proofs.Blocks.{stands_before, stands_behind}
use Rattle.theory_lists.proofs.Members.{all_stands, any_stands, one_of_any}
use Rattle.theory_numbers.specs.Arrows.{Arrow, cross}
use Rattle.theory_numbers.specs.Fractions.{Ratio}
use Rattle.theory_numbers.specs.Rationals.{rational, IsRational, IsBelow, IsSame}
use Rattle.theory_numbers.proofs.Fractions.Rationals.{same_sym, same_trans}
use Rattle.sb_fraction.specs.Spots.{Spot, IsSpot, reading}
use Rattle.sb_fraction.specs.Crossings.{cross_at, cross_over, ends_over, meeting_of}
use Rattle.sb_fraction.specs.Lines.{flat}
use Rattle.sb_fraction.specs.Meetings.{IsSamePoint}
use Rattle.sb_fraction.specs.Numbers.{number}
use Rattle.sb_model.specs.Building.{Building}
use Rattle.sb_model.specs.PlanEdges.{PlanEdge, plan_edges, is_crossing, is_abscissa}
use Rattle.theory_lines.specs.Slabs.{AreAbscissae}
use Rattle.sb_frame.specs.declared.abscissa.Abscissa.{Abscissa}
use Rattle.sb_frame.specs.Abscissae.{ratios_of, order_of_abscissae, of_point, of_edges, of_crossings}
use Rattle.sb_frame.specs.Abscissae.{all_along}
use Rattle.sb_frame.specs.Network.{Network, IsNetwork}
use Rattle.sb_frame.specs.Rising.{IsRisingOf}
use Rattle.sb_frame.proofs.Meetings.EdgesCross.{crosses_is}
use Rattle.std.specs.Cmp.{IsTotalOrder}
use Rattle.sb_frame.proofs.Orders.NumbersInOrder.{below_from, same_from, numbers_total}
use Rattle.sb_frame.proofs.Along.AbscissaeAre.{along, abscissa_same, positive_den, reduced_same, same_along}
use Rattle.sb_frame.proofs.Along.AbscissaeAre.{reduced_in}
use Rattle.sb_frame.proofs.Along.AbscissaeAre.{reading_along, meeting_is_spot, made_from, made_stands}
use Rattle.sb_frame.proofs.Along.AbscissaeAre.{in_one_part, end_along, other_along, edge_of_end, ends_stand}
use Rattle.sb_frame.proofs.Along.AbscissaeAre.{end_is_one, other_is_one, crossing_is_one}

number_in : (a : Abscissa) → IsRational (number a.number)
number_in a = positive_den a.number a.lowest

-- by their numbers abscissae are in an order
pub abscissae_total : IsTotalOrder order_of_abscissae
abscissae_total = numbers_total (λ (a : Abscissa). number a.number) number_in

pub two_images : {X Y : Type 0} (R : Y → Y → Type 0) (f : X → Y) (xs : List X)
    → AllOfTwo (λ x y. R (f x) (f y)) xs → AllOfTwo R (map f xs)
two_images R f [] all = tt
two_images R f (x ∷ xs) all = (images xs all.0, two_images R f xs all.1)
  where
    images : (ys : List _) → AllByRecursion (λ y. R (f x) (f y)) ys → AllByRecursion (R (f x)) (map f ys)
    images [] each = tt
    images (y ∷ ys) each = (each.0, images ys each.1)

module _ (m : Building) (d : Arrow) (n : Network) (is : IsNetwork m n) where
  -- ---- nothing false

  of_edges_is_one : (r : Ratio) → Stands r (of_edges d n.edges)
      → is_abscissa m (flat d) (number r) ≡ true
  of_edges_is_one r at = from (edge_of_end d r n.edges at)
    where
      from : (e : PlanEdge)
          × (Stands e n.edges × ((r ≡ end_along d e.edge) ⊎ (r ≡ other_along d e.edge)))
          → is_abscissa m (flat d) (number r) ≡ true
      from (e, (e_in, inl same)) =
          ap (λ s. is_abscissa m (flat d) (number s)) same
          ∙ end_is_one m d e (subst (Stands e) is.edges e_in)
      from (e, (e_in, inr same)) =
          ap (λ s. is_abscissa m (flat d) (number s)) same
          ∙ other_is_one m d e (subst (Stands e) is.edges e_in)

  crossing_in : (p : Spot) → Stands p n.crossings → IsSpot p
  crossing_in p at = all_stands IsSpot p n.crossings is.crossings.some.spots at

  of_crossings_is_one : (r : Ratio) → Stands r (of_crossings d n.crossings)
      → is_abscissa m (flat d) (number r) ≡ true
  of_crossings_is_one r at = from (made_from (of_point d) r n.crossings at)
    where
      from : (p : Spot) × (Stands p n.crossings × (r ≡ of_point d p))
          → is_abscissa m (flat d) (number r) ≡ true
      from (p, (p_in, same)) =
          ap (λ s. is_abscissa m (flat d) (number s)) same
          ∙ abscissa_same m d (number (of_point d p)) (rational (along d p) p.w)
          (reduced_in (along d p) p.w (crossing_in p p_in)) (crossing_in p p_in)
          (reduced_same (along d p) p.w (crossing_in p p_in))
          ∙ crossing_is_one m d p (crossing_in p p_in)
          (all_stands (λ q. is_crossing m q ≡ true) p n.crossings is.crossings.some.each p_in)

  is_one : (r : Ratio) → Stands r (all_along d n) → is_abscissa m (flat d) (number r) ≡ true
  is_one r at = from (in_one_part r (of_edges d n.edges) (of_crossings d n.crossings) at)
    where
      from : Stands r (of_edges d n.edges) ⊎ Stands r (of_crossings d n.crossings)
          → is_abscissa m (flat d) (number r) ≡ true
      from (inl there) = of_edges_is_one r there
      from (inr there) = of_crossings_is_one r there

  -- ---- nothing missing

  -- the number u stands among them
  abbrev IsThere : Arrow → Type 0
  IsThere u = (r : Ratio) × (Stands r (all_along d n) × IsSame u (number r))

  by_end : (u : Arrow) (e : PlanEdge) → Stands e (plan_edges m) → ends_over (flat d) u e.edge ≡ true
      → IsThere u
  by_end u e e_in ends =
      from
      (or_cases (int_eq (cross u (number (end_along d e.edge))) (pos 0))
      (int_eq (cross u (number (other_along d e.edge))) (pos 0)) ends)
    where
      there : Stands (end_along d e.edge) (of_edges d n.edges)
          × Stands (other_along d e.edge) (of_edges d n.edges)
      there = ends_stand d e n.edges (subst (Stands e) (sym is.edges) e_in)

      from : (int_eq (cross u (number (end_along d e.edge))) (pos 0) ≡ true)
          ⊎ (int_eq (cross u (number (other_along d e.edge))) (pos 0) ≡ true) → IsThere u
      from (inl same) = (
        end_along d e.edge,
        (
          stands_before (end_along d e.edge) (of_edges d n.edges) (of_crossings d n.crossings) there.0,
          (Decides-int_eq (cross u (number (end_along d e.edge))) (pos 0)).0 same,
        ),
      )
      from (inr same) = (
        other_along d e.edge,
        (
          stands_before (other_along d e.edge) (of_edges d n.edges) (of_crossings d n.crossings)
              there.1,
          (Decides-int_eq (cross u (number (other_along d e.edge))) (pos 0)).0 same,
        ),
      )

  by_point : (u : Arrow) (q : Spot) → IsSpot q → IsSame u (reading q (flat d))
      → (p : Spot) × (Stands p n.crossings × IsSamePoint q p) → IsThere u
  by_point u q q_is same (p, (p_in, one)) = (
    of_point d p,
    (
      stands_behind (of_point d p) (of_edges d n.edges) (of_crossings d n.crossings)
          (made_stands (of_point d) p n.crossings p_in),
      same_trans u (rational (along d q) q.w) (number (of_point d p)) q_is
          (subst (IsSame u) (reading_along d q) same)
          (same_trans (rational (along d q) q.w) (rational (along d p) p.w) (number (of_point d p))
          (crossing_in p p_in) (same_along d q p one)
          (same_sym (number (of_point d p)) (rational (along d p) p.w)
          (reduced_same (along d p) p.w (crossing_in p p_in)))),
    ),
  )

  by_meeting : (u : Arrow) (e f : PlanEdge) → Stands e (plan_edges m) → Stands f (plan_edges m)
      → cross_over (flat d) u e.edge f.edge ≡ true → IsThere u
  by_meeting u e f e_in f_in over =
      let q = meeting_of e.edge f.edge in
      let parts = and_parts (cross_at q e.edge f.edge) (int_eq (cross u (reading q (flat d))) (pos 0))
      over in
      let q_is = meeting_is_spot e.edge f.edge (crosses_is q e.edge f.edge parts.0).turned in
      by_point u q q_is ((Decides-int_eq (cross u (reading q (flat d))) (pos 0)).0 parts.1)
      (is.crossings.all q q_is
      (any_stands (λ g. list_any (λ h. cross_at q g.edge h.edge) (plan_edges m)) e (plan_edges m) e_in
      (any_stands (λ h. cross_at q e.edge h.edge) f (plan_edges m) f_in parts.0)))

  is_there : (u : Arrow) → is_abscissa m (flat d) u ≡ true → IsThere u
  is_there u one =
      from
      (or_cases (list_any (λ e. ends_over (flat d) u e.edge) (plan_edges m))
      (list_any (λ e. list_any (λ f. cross_over (flat d) u e.edge f.edge) (plan_edges m)) (plan_edges m))
      one)
    where
      with_end : (e : PlanEdge)
          × (Stands e (plan_edges m) × (ends_over (flat d) u e.edge ≡ true)) → IsThere u
      with_end (e, known) = by_end u e known.0 known.1

      with_first : (e : PlanEdge)
          × (Stands e (plan_edges m)
          × (list_any (λ f. cross_over (flat d) u e.edge f.edge) (plan_edges m) ≡ true)) → IsThere u
      with_first (e, known) = with_second (one_of_any _ (plan_edges m) known.1)
        where
          with_second : (f : PlanEdge)
              × (Stands f (plan_edges m) × (cross_over (flat d) u e.edge f.edge ≡ true)) → IsThere u
          with_second (f, its) = by_meeting u e f known.0 its.0 its.1

      from : (list_any (λ e. ends_over (flat d) u e.edge) (plan_edges m) ≡ true)
          ⊎ (list_any (λ e. list_any (λ f. cross_over (flat d) u e.edge f.edge) (plan_edges m))
          (plan_edges m) ≡ true) → IsThere u
      from (inl ends) = with_end (one_of_any _ (plan_edges m) ends)
      from (inr crosses) = with_first (one_of_any _ (plan_edges m) crosses)

  -- ---- rising and each once

  -- these are the abscissae of the direction
  pub are_abscissae : (old new : List Abscissa) → ratios_of old ≡ all_along d n
      → IsRisingOf order_of_abscissae old new → AreAbscissae m d (map number (ratios_of new))
  are_abscissae old new all rising =
      record {
        rational = of_each IsRational new (λ a at. number_in a);
        rising =
            two_images IsBelow number (ratios_of new)
            (two_images (λ r s. IsBelow (number r) (number s)) (λ a. a.number) new
            (below_each new rising.rising));
        each =
            of_each (λ u. is_abscissa m (flat d) u ≡ true) new
            (λ a at.
            is_one a.number
            (subst (Stands a.number) all
            (made_stands (λ b. b.number) a old (rising.each a at))));
        all = λ u u_in one. found u u_in (is_there u one);
      }
    where
      of_each : (P : Arrow → Type 0) (list : List Abscissa)
          → ((a : Abscissa) → Stands a list → P (number a.number))
          → AllByRecursion P (map number (ratios_of list))
      of_each P [] each = tt
      of_each P (a ∷ list) each = (each a (inl refl), of_each P list (λ b at. each b (inr at)))

      below_each : (list : List Abscissa) → AllOfTwo (λ a b. order_of_abscissae a b ≡ Less) list
          → AllOfTwo (λ a b. IsBelow (number a.number) (number b.number)) list
      below_each [] two = tt
      below_each (a ∷ list) two = (below list two.0, below_each list two.1)
        where
          below : (bs : List Abscissa) → AllByRecursion (λ b. order_of_abscissae a b ≡ Less) bs
              → AllByRecursion (λ b. IsBelow (number a.number) (number b.number)) bs
          below [] each = tt
          below (b ∷ bs) each = (below_from (number a.number) (number b.number) each.0, below bs each.1)

      found : (u : Arrow) → IsRational u → IsThere u
          → (a : Arrow) × (Stands a (map number (ratios_of new)) × IsSame u a)
      found u u_in (r, (r_in, same)) =
          with_old (made_from (λ (a : Abscissa). a.number) r old (subst (Stands r) (sym all) r_in))
        where
          with_new : (a b : Abscissa) → r ≡ a.number → Stands b new → order_of_abscissae a b ≡ Equal
              → (v : Arrow) × (Stands v (map number (ratios_of new)) × IsSame u v)
          with_new a b is_r b_in equal = (
            number b.number,
            (
              made_stands number b.number (ratios_of new) (made_stands (λ c. c.number) b new b_in),
              same_trans u (number a.number) (number b.number) (number_in a)
                  (subst (λ s. IsSame u (number s)) is_r same)
                  (same_from (number a.number) (number b.number) equal),
            ),
          )

          with_old : (a : Abscissa) × (Stands a old × (r ≡ a.number))
              → (v : Arrow) × (Stands v (map number (ratios_of new)) × IsSame u v)
          with_old (a, known) = its (rising.all a known.0)
            where
              its : (b : Abscissa) × (Stands b new × (order_of_abscissae a b ≡ Equal))
                  → (v : Arrow) × (Stands v (map number (ratios_of new)) × IsSame u v)
              its (b, two) = with_new a b known.1 two.0 two.1

-- a list that has the same numbers
pub if_abscissae : (m : Building) (d : Arrow) (new : List Abscissa) (r : Result (List Ratio) AllocError)
    → AreAbscissae m d (map number (ratios_of new)) → (given : List Abscissa) → given ≡ new
    → IfOk r (λ list. list ≡ ratios_of given) → IfOk r (λ list. AreAbscissae m d (map number list))
if_abscissae m d new (Ok list) are given same is =
    subst (λ (rs : List Ratio). AreAbscissae m d (map number rs)) (sym (is ∙ ap ratios_of same)) are
if_abscissae m d new (Err e) are given same is = tt

sizes_fit : (list : List Abscissa) → list_all is_abscissa_size (ratios_of list) ≡ true
sizes_fit [] = refl
sizes_fit (a ∷ list) =
    and_from (is_abscissa_size a.number) (list_all is_abscissa_size (ratios_of list)) a.size
    (sizes_fit list)

-- and its numbers have the size of abscissae
pub if_sized : (r : Result (List Ratio) AllocError) (given : List Abscissa)
    → IfOk r (λ list. list ≡ ratios_of given) → IfOk r (λ list. IsTrue (list_all is_abscissa_size list))
if_sized (Ok list) given is = ap (list_all is_abscissa_size) is ∙ sizes_fit given
if_sized (Err e) given is = tt

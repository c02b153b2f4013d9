-- On a line u = constant that is no abscissa a patch of the one list has between the same two
-- values a patch of the other, with its mark.
use Rattle.std.proofs.Common.{◌≡◌, sym, ◌∙◌, inl, inr, ◌⊎◌, ap, subst, arith, List, [], ◌∷◌, map}
use Rattle.std.proofs.Common.{pos, ◌≤ℤ◌}
use Rattle.std.proofs.lemmas.Int.{ints}
use Rattle.std.specs.List.{AllByRecursion}
use Rattle.theory_numbers.specs.Arrows.{Arrow}
use Rattle.theory_numbers.specs.Rationals.{IsRational, IsAtMost}
use Rattle.theory_numbers.proofs.Fractions.Avoid.{IsOther}
use Rattle.theory_plane.specs.Sides.{LineSide, value_on, clearance_at}
use Rattle.theory_plane.specs.Regions.{Region, IsRegion, IsInner}
use Rattle.theory_plane.proofs.Clearance.{value_on-IsRational, higher_is, at_least_is}
use Rattle.theory_plane.proofs.Clearance.{clearance-turn, at_most_trans}
use Rattle.theory_plane.proofs.Regions.{open_between}
use Rattle.theory_lists.specs.Members.{Stands}
use Rattle.theory_patches.specs.Marked.{MarkedPatch, IsPatch}
use Rattle.theory_patches.specs.Sheets.{Sheet, IsSheet, IsNoAbscissa}
use Rattle.theory_lists.proofs.Members.{all_of_images, all_images, all_follow}
use Rattle.theory_patches.proofs.OneLine.{AreIntervals, Covers, one_covers}
use Rattle.theory_patches.proofs.Spaced.{IsSpacedList, patch_there}
use Rattle.theory_patches.specs.Trimmed.{IsOver, AreSpaced}
use Rattle.theory_patches.proofs.SamePoints.{AreTwoCovers, exchanged}

-- ---- the values at u of all cuts and sides

-- the values of the sides of the patches, in front of others
abbrev values_at : {M : Type 0} → Arrow → List (MarkedPatch M) → List Arrow → List Arrow
values_at u [] others = others
values_at u (q ∷ qs) others =
    value_on q.region.lower u ∷ value_on q.region.upper u ∷ values_at u qs others

values_in : {M : Type 0} (u : Arrow) → IsRational u → (qs : List (MarkedPatch M))
    (others : List Arrow) → AllByRecursion (λ q. IsPatch q.region) qs
    → AllByRecursion IsRational others → AllByRecursion IsRational (values_at u qs others)
values_in u u_in [] others patches others_in = others_in
values_in u u_in (q ∷ qs) others patches others_in = (
  value_on-IsRational q.region.lower u patches.0.region.lower_in u_in,
  (
    value_on-IsRational q.region.upper u patches.0.region.upper_in u_in,
    values_in u u_in qs others patches.1 others_in,
  ),
)

lower_listed : {M : Type 0} (u : Arrow) (q : MarkedPatch M) (qs : List (MarkedPatch M))
    (others : List Arrow) → Stands q qs → Stands (value_on q.region.lower u) (values_at u qs others)
lower_listed u q [] others stands = absurd stands
lower_listed u q (r ∷ rs) others (inl same) = inl (ap (λ s. value_on s.region.lower u) same)
lower_listed u q (r ∷ rs) others (inr later) = inr (inr (lower_listed u q rs others later))

upper_listed : {M : Type 0} (u : Arrow) (q : MarkedPatch M) (qs : List (MarkedPatch M))
    (others : List Arrow) → Stands q qs → Stands (value_on q.region.upper u) (values_at u qs others)
upper_listed u q [] others stands = absurd stands
upper_listed u q (r ∷ rs) others (inl same) = inr (inl (ap (λ s. value_on s.region.upper u) same))
upper_listed u q (r ∷ rs) others (inr later) = inr (inr (upper_listed u q rs others later))

others_of : {M : Type 0} (P : Arrow → Type 0) (u : Arrow) (qs : List (MarkedPatch M))
    (others : List Arrow) → AllByRecursion P (values_at u qs others) → AllByRecursion P others
others_of P u [] others all = all
others_of P u (q ∷ qs) others all = others_of P u qs others all.1.1

-- ---- order of sides on a line

-- a patch within one that is within a third touches the third
touches : (u : Arrow) → IsRational u → (p q r : Region) → IsRegion p → IsRegion q → IsRegion r
    → IsOver p u
    → pos 0 ≤ℤ clearance_at r.lower q.lower u → pos 0 ≤ℤ clearance_at q.lower p.lower u
    → pos 0 ≤ℤ clearance_at p.upper q.upper u → pos 0 ≤ℤ clearance_at q.upper r.upper u
    → (pos 0 ≤ℤ clearance_at p.lower r.upper u) × (pos 0 ≤ℤ clearance_at r.lower p.upper u)
touches u u_in p q r p_in q_in r_in over lower lower_p upper_p upper =
    let open_p = open_between p p_in u u_in over.after over.before in
    let wide : pos 0 ≤ℤ clearance_at p.lower p.upper u = omega (arith, ints) in (
      at_most_trans p.lower q.upper r.upper u p_in.lower_in q_in.upper_in r_in.upper_in
          (at_most_trans p.lower p.upper q.upper u p_in.lower_in p_in.upper_in q_in.upper_in wide
          upper_p)
          upper,
      at_most_trans r.lower q.lower p.upper u r_in.lower_in q_in.lower_in p_in.upper_in lower
          (at_most_trans q.lower p.lower p.upper u q_in.lower_in p_in.lower_in p_in.upper_in
          lower_p wide),
    )

-- two sides each of which is not above the other have one value
one_value : (u : Arrow) (l m : LineSide) → pos 0 ≤ℤ clearance_at l m u → pos 0 ≤ℤ clearance_at m l u
    → clearance_at l m u ≡ pos 0
one_value u l m low high = let turn = clearance-turn l m u in omega (arith, ints)

-- ---- the patches of one mark on the line

-- q stands in the list, has the mark, and u lies strictly between its ends
pub record IsOnLine {M : Type 0} (qs : List (MarkedPatch M)) (mark : M) (u : Arrow)
    (q : MarkedPatch M) : Type 0 where
  pub stands : Stands q qs
  pub same_mark : q.mark ≡ mark
  pub over : IsOver q.region u

-- moreover it has the mark of p and lies around p there: its lower side is not above that of p, and
-- its upper side not below
pub record IsAround {M : Type 0} (qs : List (MarkedPatch M)) (p : MarkedPatch M) (u : Arrow)
    (q : MarkedPatch M) : Type 0 where
  pub on : IsOnLine qs p.mark u q
  pub lower : pos 0 ≤ℤ clearance_at q.region.lower p.region.lower u
  pub upper : pos 0 ≤ℤ clearance_at p.region.upper q.region.upper u

-- or its sides have the values of those of p
pub record HasValuesOf {M : Type 0} (qs : List (MarkedPatch M)) (p : MarkedPatch M) (u : Arrow)
    (q : MarkedPatch M) : Type 0 where
  pub on : IsOnLine qs p.mark u q
  pub lower : clearance_at p.region.lower q.region.lower u ≡ pos 0
  pub upper : clearance_at p.region.upper q.region.upper u ≡ pos 0

-- the patches of one mark on the line
abbrev OnLine : {M : Type 0} → List (MarkedPatch M) → M → Arrow → Type 0
OnLine {M} qs mark u = (q : MarkedPatch M) × IsOnLine qs mark u q

-- where each ends below
abbrev low_of : {M : Type 0} (qs : List (MarkedPatch M)) (mark : M) (u : Arrow)
    → OnLine qs mark u → Arrow
low_of qs mark u i = value_on i.0.region.lower u

-- and above
abbrev high_of : {M : Type 0} (qs : List (MarkedPatch M)) (mark : M) (u : Arrow)
    → OnLine qs mark u → Arrow
high_of qs mark u i = value_on i.0.region.upper u

-- all the values on the line
abbrev ends_on : {M : Type 0} → Sheet → Arrow → List (MarkedPatch M) → List Arrow
ends_on sheet u qs = values_at u qs (map (λ cut. value_on cut u) sheet.cuts)

module _ {M : Type 0} (sheet : Sheet) (u : Arrow) (u_in : IsRational u)
    (off : IsNoAbscissa sheet u) where
  -- they are intervals that do not touch
  are_intervals : IsSheet sheet → (qs : List (MarkedPatch M)) → IsSpacedList sheet qs → (mark : M)
      → AreIntervals (low_of qs mark u) (high_of qs mark u) (ends_on sheet u qs)
  are_intervals sheet_in qs list mark =
      record {
        ends_in =
            values_in u u_in qs (map (λ cut. value_on cut u) sheet.cuts) list.patches
            (all_images IsRational (λ cut. value_on cut u) sheet.cuts
            (all_follow (λ cut cut_in. value_on-IsRational cut u cut_in u_in) sheet.cuts
            sheet_in.cuts_in));
        low_listed =
            λ i.
            lower_listed u i.0 qs (map (λ cut. value_on cut u) sheet.cuts) i.1.stands;
        high_listed =
            λ i.
            upper_listed u i.0 qs (map (λ cut. value_on cut u) sheet.cuts) i.1.stands;
        apart = λ i j first second. one i.0 i.1 j.0 j.1 first second;
      }
    where
      one : (q : MarkedPatch M) → IsOnLine qs mark u q → (r : MarkedPatch M)
          → IsOnLine qs mark u r
          → IsAtMost (value_on q.region.lower u) (value_on r.region.upper u)
          → IsAtMost (value_on r.region.lower u) (value_on q.region.upper u)
          → (value_on q.region.lower u ≡ value_on r.region.lower u)
          × (value_on q.region.upper u ≡ value_on r.region.upper u)
      one q q_on r r_on first second =
          from (list.spaced q r q_on.stands r_on.stands (q_on.same_mark ∙ sym r_on.same_mark))
        where
          from : (q ≡ r) ⊎ AreSpaced sheet q.region r.region
              → (value_on q.region.lower u ≡ value_on r.region.lower u)
              × (value_on q.region.upper u ≡ value_on r.region.upper u)
          from (inl same) = (
            ap (λ s. value_on s.region.lower u) same,
            ap (λ s. value_on s.region.upper u) same,
          )
          from (inr spaced) =
              absurd
              (spaced.apart u u_in off q_on.over r_on.over
              ((at_least_is q.region.lower r.region.upper u u_in).0 first)
              ((at_least_is r.region.lower q.region.upper u u_in).0 second))

  -- a patch on the line lies within one of the other list, which has its mark
  within_one : (ps qs : List (MarkedPatch M)) → AreTwoCovers sheet ps qs → (p : MarkedPatch M)
      → Stands p ps → IsOver p.region u
      → (q : MarkedPatch M) × IsAround qs p u q
  within_one ps qs two p stands over =
      let p_in = patch_there ps two.first.patches p stands in
      let found =
      one_covers (low_of qs p.mark u) (high_of qs p.mark u) (ends_on sheet u qs)
      (are_intervals two.sheet_in qs two.second p.mark)
      (value_on p.region.lower u) (value_on p.region.upper u)
      (value_on-IsRational p.region.lower u p_in.region.lower_in u_in)
      (value_on-IsRational p.region.upper u p_in.region.upper_in u_in)
      covered
      ((higher_is p.region.lower p.region.upper u u_in).1
      (open_between p.region p_in.region u u_in over.after over.before))
      in
      let q : MarkedPatch M = found.0.0 in (
        q,
        record {
          on = found.0.1;
          lower = (at_least_is q.region.lower p.region.lower u u_in).0 found.1;
          upper = (at_least_is p.region.upper q.region.upper u u_in).0 found.2;
        },
      )
    where
      covered : Covers (low_of qs p.mark u) (high_of qs p.mark u) (ends_on sheet u qs)
          (value_on p.region.lower u) (value_on p.region.upper u)
      covered v v_in above under others =
          let off_cuts =
          all_of_images (IsOther v) (λ cut. value_on cut u) sheet.cuts
          (others_of (IsOther v) u qs (map (λ cut. value_on cut u) sheet.cuts) others)
          in
          let found =
          two.there u v u_in v_in off off_cuts p stands
          (record { after = over.after; before = over.before; above = above; under = under })
          in
          let inner : IsInner found.0.region u v = found.3 in (
            (
              found.0,
              record {
                stands = found.1;
                same_mark = found.2;
                over = record { after = inner.after; before = inner.before };
              },
            ),
            record { after = inner.above; before = inner.under },
          )

  -- and has the same values there
  pub cut_line : (ps qs : List (MarkedPatch M)) → AreTwoCovers sheet ps qs → (p : MarkedPatch M)
      → Stands p ps → IsOver p.region u
      → (q : MarkedPatch M) × HasValuesOf qs p u q
  cut_line ps qs two p stands over = outer (within_one ps qs two p stands over)
    where
      outer : (q : MarkedPatch M) × IsAround qs p u q
          → (q : MarkedPatch M) × HasValuesOf qs p u q
      outer (q, q_is) =
          inner (within_one qs ps (exchanged sheet ps qs two) q q_is.on.stands q_is.on.over)
        where
          inner : (r : MarkedPatch M) × IsAround ps q u r
              → (q : MarkedPatch M) × HasValuesOf qs p u q
          inner (r, r_is) =
              from
              (two.first.spaced p r stands r_is.on.stands
              (sym (r_is.on.same_mark ∙ q_is.on.same_mark)))
            where
              from : (p ≡ r) ⊎ AreSpaced sheet p.region r.region
                  → (q : MarkedPatch M) × HasValuesOf qs p u q
              from (inl same) = (
                q,
                record {
                  on = q_is.on;
                  lower =
                      one_value u p.region.lower q.region.lower
                      (subst (λ s. pos 0 ≤ℤ clearance_at s.region.lower q.region.lower u)
                      (sym same) r_is.lower)
                      q_is.lower;
                  upper =
                      one_value u p.region.upper q.region.upper q_is.upper
                      (subst (λ s. pos 0 ≤ℤ clearance_at q.region.upper s.region.upper u)
                      (sym same) r_is.upper);
                },
              )
              from (inr spaced) =
                  let touch =
                  touches u u_in p.region q.region r.region
                  (patch_there ps two.first.patches p stands).region
                  (patch_there qs two.second.patches q q_is.on.stands).region
                  (patch_there ps two.first.patches r r_is.on.stands).region over r_is.lower
                  q_is.lower q_is.upper r_is.upper
                  in
                  absurd (spaced.apart u u_in off over r_is.on.over touch.0 touch.1)

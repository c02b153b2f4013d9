-- A profile, a curve and a material instance is of the one entity that its keyword names.
use Rattle.std.proofs.Common.{◌≡◌, ℕ, Bool, true, false, ◌||◌, List, [], ◌∷◌, refl, sym, ◌∙◌}
use Rattle.std.specs.Prelude.{codes}
use Rattle.sb_step.specs.Indexed.{Indexed}
use Rattle.sb_schema.specs.Table.{is_one_of}
use Rattle.sb_profile.specs.declared.following.places.Place.TheVariants as place
use Rattle.sb_profile.specs.Entities.Entity.{rectangle_profile_def, arbitrary_closed_profile_def, arbitrary_profile_def_with_voids, polyline, indexed_poly_curve, material, material_layer_set, material_layer_set_usage}
use Rattle.sb_profile.specs.Contents.{Contents, Says, is_unfit}
use Rattle.sb_profile.specs.Following.{Lead, from, to, to_each}
use Rattle.sb_profile.proofs.TablesOfFiles.ViewsAreSights.{other_gives_nothing, one_keyword}
use Rattle.sb_profile.proofs.Followed.FoundTogether.{IsAlone, first_of_two, second_of_two, first_of_three, second_of_three, third_of_three, first_alone, second_alone, neither, from_nothing, from_none}

abbrev RECTANGLE : List ℕ
RECTANGLE = codes "IFCRECTANGLEPROFILEDEF"

abbrev CLOSED : List ℕ
CLOSED = codes "IFCARBITRARYCLOSEDPROFILEDEF"

abbrev WITH_VOIDS : List ℕ
WITH_VOIDS = codes "IFCARBITRARYPROFILEDEFWITHVOIDS"

abbrev MATERIAL : List ℕ
MATERIAL = codes "IFCMATERIAL"

abbrev SET : List ℕ
SET = codes "IFCMATERIALLAYERSET"

abbrev USAGE : List ℕ
USAGE = codes "IFCMATERIALLAYERSETUSAGE"

module _ (bodies : ℕ → Bool) (indexed : Indexed) (c : Contents) (n : ℕ) (says : Says indexed c) where
  -- ---- profiles

  abbrev of_rectangle : List Lead
  of_rectangle = from (c.given rectangle_profile_def n) (λ v. to place.Position2d v.0)

  abbrev of_closed : List Lead
  of_closed = from (c.given arbitrary_closed_profile_def n) (λ v. (place.Curve, v.0) ∷ [])

  abbrev of_voids : List Lead
  of_voids =
      from (c.given arbitrary_profile_def_with_voids n)
      (λ v. (place.Curve, v.0) ∷ to_each place.Curve v.1.0)

  pub closed_alone : is_one_of (CLOSED ∷ []) (c.keyword n) ≡ true
      → IsAlone bodies c place.Profile arbitrary_closed_profile_def n (λ v. (place.Curve, v.0) ∷ [])
  closed_alone is =
      let r = other_gives_nothing rectangle_profile_def indexed c n says
      (one_keyword CLOSED RECTANGLE (c.keyword n) refl is) in
      let v = other_gives_nothing arbitrary_profile_def_with_voids indexed c n says
      (one_keyword CLOSED WITH_VOIDS (c.keyword n) refl is) in
      record {
        leads = second_of_three of_rectangle of_closed of_voids
            (from_none (c.given rectangle_profile_def n) (λ w. to place.Position2d w.0) r.0)
            (from_none (c.given arbitrary_profile_def_with_voids n)
            (λ w. (place.Curve, w.0) ∷ to_each place.Curve w.1.0) v.0);
        unfit = first_alone (is_unfit c arbitrary_closed_profile_def n)
            (is_unfit c arbitrary_profile_def_with_voids n) v.1
            ∙ second_alone (is_unfit c rectangle_profile_def n)
            (is_unfit c arbitrary_closed_profile_def n
            || is_unfit c arbitrary_profile_def_with_voids n) r.1;
      }

  pub voids_alone : is_one_of (WITH_VOIDS ∷ []) (c.keyword n) ≡ true
      → IsAlone bodies c place.Profile arbitrary_profile_def_with_voids n
      (λ v. (place.Curve, v.0) ∷ to_each place.Curve v.1.0)
  voids_alone is =
      let r = other_gives_nothing rectangle_profile_def indexed c n says
      (one_keyword WITH_VOIDS RECTANGLE (c.keyword n) refl is) in
      let k = other_gives_nothing arbitrary_closed_profile_def indexed c n says
      (one_keyword WITH_VOIDS CLOSED (c.keyword n) refl is) in
      record {
        leads = third_of_three of_rectangle of_closed of_voids
            (from_none (c.given rectangle_profile_def n) (λ w. to place.Position2d w.0) r.0)
            (from_none (c.given arbitrary_closed_profile_def n) (λ w. (place.Curve, w.0) ∷ []) k.0);
        unfit = second_alone (is_unfit c arbitrary_closed_profile_def n)
            (is_unfit c arbitrary_profile_def_with_voids n) k.1
            ∙ second_alone (is_unfit c rectangle_profile_def n)
            (is_unfit c arbitrary_closed_profile_def n
            || is_unfit c arbitrary_profile_def_with_voids n) r.1;
      }

  pub rectangle_alone : is_one_of (CLOSED ∷ []) (c.keyword n) ≡ false
      → is_one_of (WITH_VOIDS ∷ []) (c.keyword n) ≡ false
      → IsAlone bodies c place.Profile rectangle_profile_def n (λ v. to place.Position2d v.0)
  rectangle_alone not_closed not_voids =
      let k = other_gives_nothing arbitrary_closed_profile_def indexed c n says not_closed in
      let v = other_gives_nothing arbitrary_profile_def_with_voids indexed c n says not_voids in
      record {
        leads = first_of_three of_rectangle of_closed of_voids
            (from_none (c.given arbitrary_closed_profile_def n) (λ w. (place.Curve, w.0) ∷ []) k.0)
            (from_none (c.given arbitrary_profile_def_with_voids n)
            (λ w. (place.Curve, w.0) ∷ to_each place.Curve w.1.0) v.0);
        unfit = first_alone (is_unfit c rectangle_profile_def n)
            (is_unfit c arbitrary_closed_profile_def n
            || is_unfit c arbitrary_profile_def_with_voids n)
            (neither (is_unfit c arbitrary_closed_profile_def n)
            (is_unfit c arbitrary_profile_def_with_voids n) k.1 v.1);
      }

  -- ---- curves

  abbrev of_polyline : List Lead
  of_polyline = from (c.given polyline n) (λ v. to_each place.Point v.0)

  abbrev of_indexed : List Lead
  of_indexed = from (c.given indexed_poly_curve n) (λ v. (place.PointList, v.0) ∷ [])

  pub indexed_alone : is_one_of (codes "IFCINDEXEDPOLYCURVE" ∷ []) (c.keyword n) ≡ true
      → IsAlone bodies c place.Curve indexed_poly_curve n (λ v. (place.PointList, v.0) ∷ [])
  indexed_alone is =
      let p = other_gives_nothing polyline indexed c n says
      (one_keyword (codes "IFCINDEXEDPOLYCURVE") (codes "IFCPOLYLINE") (c.keyword n) refl is) in
      record {
        leads = second_of_two of_polyline of_indexed
            (from_none (c.given polyline n) (λ w. to_each place.Point w.0) p.0);
        unfit = second_alone (is_unfit c polyline n) (is_unfit c indexed_poly_curve n) p.1;
      }

  pub polyline_alone : is_one_of (codes "IFCINDEXEDPOLYCURVE" ∷ []) (c.keyword n) ≡ false
      → IsAlone bodies c place.Curve polyline n (λ v. to_each place.Point v.0)
  polyline_alone other =
      let i = other_gives_nothing indexed_poly_curve indexed c n says other in
      record {
        leads = first_of_two of_polyline of_indexed
            (from_none (c.given indexed_poly_curve n) (λ w. (place.PointList, w.0) ∷ []) i.0);
        unfit = first_alone (is_unfit c polyline n) (is_unfit c indexed_poly_curve n) i.1;
      }

  -- ---- material instances

  abbrev of_set : List Lead
  of_set = from (c.given material_layer_set n) (λ v. to_each place.Layer v.0)

  abbrev of_usage : List Lead
  of_usage = from (c.given material_layer_set_usage n) (λ v. (place.LayerSet, v.0) ∷ [])

  pub usage_alone : is_one_of (USAGE ∷ []) (c.keyword n) ≡ true
      → IsAlone bodies c place.Material material_layer_set_usage n (λ v. (place.LayerSet, v.0) ∷ [])
  usage_alone is =
      let m = other_gives_nothing material indexed c n says
      (one_keyword USAGE MATERIAL (c.keyword n) refl is) in
      let s = other_gives_nothing material_layer_set indexed c n says
      (one_keyword USAGE SET (c.keyword n) refl is) in
      record {
        leads = second_of_two of_set of_usage
            (from_none (c.given material_layer_set n) (λ w. to_each place.Layer w.0) s.0);
        unfit = second_alone (is_unfit c material_layer_set n)
            (is_unfit c material_layer_set_usage n) s.1
            ∙ second_alone (is_unfit c material n)
            (is_unfit c material_layer_set n || is_unfit c material_layer_set_usage n) m.1;
      }

  pub set_alone : is_one_of (SET ∷ []) (c.keyword n) ≡ true
      → IsAlone bodies c place.Material material_layer_set n (λ v. to_each place.Layer v.0)
  set_alone is =
      let m = other_gives_nothing material indexed c n says
      (one_keyword SET MATERIAL (c.keyword n) refl is) in
      let u = other_gives_nothing material_layer_set_usage indexed c n says
      (one_keyword SET USAGE (c.keyword n) refl is) in
      record {
        leads = first_of_two of_set of_usage
            (from_none (c.given material_layer_set_usage n) (λ w. (place.LayerSet, w.0) ∷ []) u.0);
        unfit = first_alone (is_unfit c material_layer_set n)
            (is_unfit c material_layer_set_usage n) u.1
            ∙ second_alone (is_unfit c material n)
            (is_unfit c material_layer_set n || is_unfit c material_layer_set_usage n) m.1;
      }

  pub material_alone : is_one_of (USAGE ∷ []) (c.keyword n) ≡ false
      → is_one_of (SET ∷ []) (c.keyword n) ≡ false
      → IsAlone bodies c place.Material material n (λ _. [])
  material_alone no_usage no_set =
      let s = other_gives_nothing material_layer_set indexed c n says no_set in
      let u = other_gives_nothing material_layer_set_usage indexed c n says no_usage in
      record {
        leads = from_nothing (c.given material n)
            ∙ (sym (from_none (c.given material_layer_set n) (λ w. to_each place.Layer w.0) s.0)
            ∙ first_of_two of_set of_usage
            (from_none (c.given material_layer_set_usage n) (λ w. (place.LayerSet, w.0) ∷ []) u.0));
        unfit = first_alone (is_unfit c material n)
            (is_unfit c material_layer_set n || is_unfit c material_layer_set_usage n)
            (neither (is_unfit c material_layer_set n) (is_unfit c material_layer_set_usage n) s.1
            u.1);
      }

-- Put: how a run carries a joined list on. It goes on with the patch that ends where it begins, if
-- that has its sides and its mark; else it is a patch of its own.
use Rattle.std.specs.Prelude.{pos, Bool, ◌&&◌, if◌then◌else◌, List, [], ◌∷◌, IsPermutation}
use Rattle.std.specs.Ordering.{int_eq}
use Rattle.theory_numbers.specs.Arrows.{cross}
use Rattle.theory_plane.specs.Regions.{Region, have_same_sides}
use Rattle.theory_patches.specs.Marked.{MarkedPatch}

-- the patch ends at the number at which the run begins
abbrev pub ends_where_begins : Region → Region → Bool
ends_where_begins p r = int_eq (cross p.high r.low) (pos 0)

-- the run goes on with the patch: the one ends where the other begins, and both have the same sides
-- and the same mark
abbrev pub goes_on : {M : Type 0} → (M → M → Bool) → MarkedPatch M → MarkedPatch M → Bool
goes_on same p r =
    (ends_where_begins p.region r.region && have_same_sides p.region r.region)
    && same p.mark r.mark

-- the patch carried on to the end of the run
abbrev pub carried_on : {M : Type 0} → MarkedPatch M → MarkedPatch M → MarkedPatch M
carried_on p r =
    record {
      region =
          record {
            low = p.region.low;
            high = r.region.high;
            lower = p.region.lower;
            upper = p.region.upper;
          };
      mark = p.mark;
    }

-- one run is put to a list
abbrev pub put : {M : Type 0} → (M → M → Bool) → MarkedPatch M → List (MarkedPatch M)
    → List (MarkedPatch M)
put same r [] = r ∷ []
put same r (p ∷ ps) = if goes_on same p r then carried_on p r ∷ ps else p ∷ put same r ps

-- all runs of a slab are put to it
abbrev pub put_all : {M : Type 0} → (M → M → Bool) → List (MarkedPatch M) → List (MarkedPatch M)
    → List (MarkedPatch M)
put_all same [] ps = ps
put_all same (r ∷ rs) ps = put_all same rs (put same r ps)

-- the runs are put one by one, and after each put the patches may stand in another order: so keeps
-- them who looks them up by a key
abbrev pub ArePutTo : {M : Type 0} → (M → M → Bool) → List (MarkedPatch M) → List (MarkedPatch M)
    → List (MarkedPatch M) → Type 0
ArePutTo same [] ps qs = IsPermutation ps qs
ArePutTo {M} same (r ∷ rs) ps qs =
    (ms : List (MarkedPatch M)) × IsPermutation (put same r ps) ms × ArePutTo same rs ms qs

use Rattle.std.proofs.Common.{◌≡◌, List, length, IsTrue}
use Rattle.std.specs.List.{concat, list_all}
use Rattle.sb_fraction.specs.declared.point.Point.{Point}
use Rattle.sb_knots.specs.Listing.{IsListing, IsReached}
use Rattle.sb_knots.specs.Steps.{is_edge}
use Rattle.sb_knots.proofs.sweep.sweep.Given as goal

abbrev pub invariant-corners : goal.invariant-corners
invariant-corners l = record {
  ids : IsTrue (list_all (is_edge l.corners) (concat l.standing));
  count : length l.lefts.items ≡ l.k;
  reached : (loops : List (List Point)) → IsListing loops l.corners
      → IsReached loops l.corners l.k (concat l.standing) l.lefts.items;
}

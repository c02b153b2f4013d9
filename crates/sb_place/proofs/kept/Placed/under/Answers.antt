use Rattle.std.proofs.Common.{length, sym, ◌∙◌, ap, refl, arith}
use Rattle.sb_place.specs.declared.sight.Seen.TheVariants as seen
use Rattle.sb_place.specs.Chains as chain
use Rattle.sb_place.specs.Kept as spec
use Rattle.sb_place.proofs.NearestIsRead.{nearest-below, counted-below, counted_less}
use Rattle.sb_place.proofs.kept.Placed.under.Goals as goal

pub returns : goal.returns
returns c unit s links reached own kept = record {
  depth = c.deeper.ensures ∙ ap spec.below kept.depth ∙ counted-below (length links);
  reached_is = kept.reached_is;
  broken =
      c.nearest.ensures
      ∙ rw (ap (λ l. l.broken) own, kept.broken) (sym (nearest-below chain.broken_of (seen.Shown s) links));
  absent =
      c.nearest-2.ensures
      ∙ rw (ap (λ l. l.absent) own, kept.absent) (sym (nearest-below chain.absent_of (seen.Shown s) links));
  stray = c.either.ensures ∙ rw (ap (λ l. l.stray) own, kept.stray) refl;
  turned = c.either-2.ensures ∙ rw (ap (λ l. l.turned) own, kept.turned) refl;
  far = c.either-3.ensures ∙ rw (ap (λ l. l.far) own, kept.far) refl;
  frame = λ few.
      c.frame_under.ensures.value (counted_less (length links) c.args.self.now.depth kept.depth (omega (arith, few)))
      ∙ rw (ap (λ l. l.frame) own, kept.frame (omega (arith, few))) refl;
}

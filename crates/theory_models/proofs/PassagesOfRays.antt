-- Rays with one label or two: their passages, their walks, and that none of their points is opened.
use Rattle.std.proofs.Common.{◌≡◌, refl, sym, ap, ◌∙◌, arith, ℤ, pos, ◌-ℤ◌, ◌*ℤ◌, ◌<ℤ◌, List, []}
use Rattle.std.proofs.Common.{◌∷◌, Option, Some, None, subst}
use Rattle.std.proofs.lemmas.Int.{ints}
use Rattle.theory_numbers.specs.Arrows.{Arrow, cross}
use Rattle.theory_numbers.specs.Rationals.{IsRational, IsBelow, rational}
use Rattle.theory_numbers.proofs.Products.{positive_product}
use Rattle.theory_numbers.proofs.Fractions.Reduced.{whole_is_reduced}
use Rattle.theory_numbers.proofs.Ring.{mul_comm}
use Rattle.theory_cuttings.specs.Ends.{IsEnd}
use Rattle.theory_cuttings.specs.Cuttings.{Break, IsFraction}
use Rattle.theory_cuttings.specs.Changes.{break_at}
use Rattle.theory_cuttings.specs.Passages.{ray_start}
use Rattle.theory_cuttings.specs.Passages as cut
use Rattle.theory_cuttings.proofs.OneCutting.{has_one_cutting, same_break}
use Rattle.sb_model.specs.declared.labels.label.Label.{Label}
use Rattle.sb_model.specs.declared.labels.label.Label.TheVariants as label
use Rattle.sb_model.specs.declared.walk.End.{End}
use Rattle.sb_model.specs.declared.walk.End.TheVariants as end
use Rattle.sb_model.specs.declared.walk.Walk.{Walk}
use Rattle.sb_fraction.specs.Spots.{Spot, along}
use Rattle.sb_model.specs.Building.{Building}
use Rattle.sb_model.specs.Surfaces.Faces.{Surface}
use Rattle.sb_model.specs.Labels.{label_at}
use Rattle.sb_model.specs.Passages.{Ray, ray_from, at_depth, ArePassages, passages_of, pieces_of}
use Rattle.sb_model.specs.Passages.{before_pieces, Piece, piece, passage}
use Rattle.sb_model.specs.Walks.{Course, course, Goes, IsWalk}
use Rattle.sb_model.specs.Boundaries.OpenedPoints.{IsOpened}

-- a ray whose label is one at all depths above 0 has one passage
pub one_passage : {L : Type 0} (f : Arrow → L) (l : L)
    → ((u : Arrow) → IsRational u → IsBelow ray_start u → f u ≡ l)
    → cut.ArePassages f (break_at ray_start l ∷ [])
one_passage f l same = (
  refl,
  record { cutting = (tt, λ u rational after before. same u rational after); different = tt },
)

-- a ray with one label up to a depth and another from there on has two
pub two_passages : {L : Type 0} (f : Arrow → L) (near far : L) (depth : Arrow) → IsFraction depth
    → IsBelow ray_start depth → (near ≡ far → ⊥)
    → ((u : Arrow) → IsRational u → IsBelow ray_start u → IsBelow u depth → f u ≡ near)
    → ((u : Arrow) → IsRational u → IsBelow depth u → f u ≡ far)
    → cut.ArePassages f (break_at ray_start near ∷ break_at depth far ∷ [])
two_passages f near far depth reduced later other before after = (
  refl,
  record {
    cutting = (
      reduced,
      later,
      λ u rational low high. before u rational low high,
      (tt, λ u rational low high. after u rational low),
    );
    different = (other, tt);
  },
)

same_breaks : {L : Type 0} (b c : Break L) (bs cs : List (Break L)) → b ≡ c → bs ≡ cs
    → b ∷ bs ≡ c ∷ cs
same_breaks b c bs cs e f = ap (λ x. x ∷ bs) e ∙ ap (λ xs. c ∷ xs) f

start_is_end : IsEnd (Some ray_start)
start_is_end = omega (arith, ints)

-- a ray has one list of passages
pub one_list_of_passages : {L : Type 0} (f : Arrow → L) (bs cs : List (Break L))
    → cut.ArePassages f bs → cut.ArePassages f cs → bs ≡ cs
one_list_of_passages f [] cs first second = absurd first
one_list_of_passages f (b ∷ bs) [] first second = absurd second
one_list_of_passages {L} f (b ∷ bs) (c ∷ cs) first second =
    let one = has_one_cutting L f
    (Some ray_start) None start_is_end tt b.label c.label bs cs first.1 second.1 in
    same_breaks b c bs cs (same_break b c (first.0 ∙ sym second.0) one.0) one.1

-- ---- a point that looks out at the earth or the open air

-- what a walk ends at where its first label is this
abbrev pub IsOpenEnd : Label → End → Type 0
IsOpenEnd label.Earth found = found ≡ end.Earth
IsOpenEnd label.Void found = found ≡ end.Outside
IsOpenEnd _ found = ⊥

-- the ray from a point of a face has the earth or the open air before it
pub record LooksOut (m : Building) (f : Surface) (p : Spot) (found : End) : Type 0 where
  pub first : Label
  pub rest : List (Break Label)
  pub passages : ArePassages m (ray_from p f.normal) (break_at ray_start first ∷ rest)
  pub open_end : IsOpenEnd first found

-- a ray with one label throughout
pub looks_out_throughout : (m : Building) (f : Surface) (p : Spot) (l : Label) (found : End)
    → IsOpenEnd l found
    → ((u : Arrow) → IsRational u → IsBelow ray_start u → label_at m (along p f.normal u) ≡ l)
    → LooksOut m f p found
looks_out_throughout m f p l found open_end same = record {
  first = l;
  rest = [];
  passages = one_passage (λ u. label_at m (along p f.normal u)) l same;
  open_end = open_end;
}

-- a ray with one label up to a whole depth, and with another from there on
pub looks_out_up_to : (m : Building) (f : Surface) (p : Spot) (near far : Label) (depth : ℤ)
    (found : End)
    → IsOpenEnd near found → pos 0 <ℤ depth → (near ≡ far → ⊥)
    → ((u : Arrow) → IsRational u → IsBelow ray_start u → u.y <ℤ (depth *ℤ u.x)
    → label_at m (along p f.normal u) ≡ near)
    → ((u : Arrow) → IsRational u → IsBelow ray_start u → (depth *ℤ u.x) <ℤ u.y
    → label_at m (along p f.normal u) ≡ far)
    → LooksOut m f p found
unfolding cross
looks_out_up_to m f p near far depth found open_end ahead other before after = record {
  first = near;
  rest = break_at (rational depth (pos 1)) far ∷ [];
  passages =
      two_passages (λ u. label_at m (along p f.normal u)) near far (rational depth (pos 1))
      (whole_is_reduced depth) (later depth ahead) other
      (λ u positive start end. before u positive start (earlier depth u.x u.y end))
      (λ u positive past. after u positive
      (later_still depth u.x u.y (positive_product depth u.x ahead positive) past)
      (beyond depth u.x u.y past));
  open_end = open_end;
}
  where
    later : (c : ℤ) → pos 0 <ℤ c → pos 0 <ℤ ((pos 1 *ℤ c) -ℤ (pos 0 *ℤ pos 1))
    later c h = omega (arith, ints)

    earlier : (c d n : ℤ) → pos 0 <ℤ ((d *ℤ c) -ℤ (n *ℤ pos 1)) → n <ℤ (c *ℤ d)
    earlier c d n h = let e = mul_comm c d in omega (arith, ints)

    beyond : (c d n : ℤ) → pos 0 <ℤ ((pos 1 *ℤ n) -ℤ (c *ℤ d)) → (c *ℤ d) <ℤ n
    beyond c d n h = omega (arith, ints)

    later_still : (c d n : ℤ) → pos 0 <ℤ (c *ℤ d) → pos 0 <ℤ ((pos 1 *ℤ n) -ℤ (c *ℤ d))
        → pos 0 <ℤ ((pos 1 *ℤ n) -ℤ (pos 0 *ℤ d))
    later_still c d n product h = omega (arith, ints)

-- a passage of earth, or of void, is a piece of its own
earth_alone : (from : Arrow) (to : Option Arrow) (cs : List Piece)
    → before_pieces (passage label.Earth from to) cs ≡ piece (passage label.Earth from to) [] ∷ cs
earth_alone from to [] = refl
earth_alone from to (c ∷ cs) = refl

void_alone : (from : Arrow) (to : Option Arrow) (cs : List Piece)
    → before_pieces (passage label.Void from to) cs ≡ piece (passage label.Void from to) [] ∷ cs
void_alone from to [] = refl
void_alone from to (c ∷ cs) = refl

-- the walk of such a ray ends at once
goes_out : (m : Building) (r : Ray) (first : Label) (rest : List (Break Label)) (found : End)
    (w : Course)
    → IsOpenEnd first found → Goes m r (pieces_of (passages_of (break_at ray_start first ∷ rest))) w
    → w ≡ course [] ray_start found
goes_out m r label.Earth [] found w out goes = goes ∙ ap (course [] ray_start) (sym out)
goes_out m r label.Void [] found w out goes = goes ∙ ap (course [] ray_start) (sym out)
goes_out m r label.Earth (b ∷ bs) found w out goes =
    subst (λ (cs : List Piece). Goes m r cs w)
    (earth_alone ray_start (Some b.start) (pieces_of (passages_of (b ∷ bs)))) goes
    ∙ ap (course [] ray_start) (sym out)
goes_out m r label.Void (b ∷ bs) found w out goes =
    subst (λ (cs : List Piece). Goes m r cs w)
    (void_alone ray_start (Some b.start) (pieces_of (passages_of (b ∷ bs)))) goes
    ∙ ap (course [] ray_start) (sym out)
goes_out m r (label.Space n) rest found w out goes = absurd out
goes_out m r (label.Element e l) rest found w out goes = absurd out

out_goes : (m : Building) (r : Ray) (first : Label) (rest : List (Break Label)) (found : End)
    → IsOpenEnd first found
    → Goes m r (pieces_of (passages_of (break_at ray_start first ∷ rest)))
    (course [] ray_start found)
out_goes m r label.Earth [] found out = ap (course [] ray_start) out
out_goes m r label.Void [] found out = ap (course [] ray_start) out
out_goes m r label.Earth (b ∷ bs) found out =
    subst (λ (cs : List Piece). Goes m r cs (course [] ray_start found))
    (sym (earth_alone ray_start (Some b.start) (pieces_of (passages_of (b ∷ bs)))))
    (ap (course [] ray_start) out)
out_goes m r label.Void (b ∷ bs) found out =
    subst (λ (cs : List Piece). Goes m r cs (course [] ray_start found))
    (sym (void_alone ray_start (Some b.start) (pieces_of (passages_of (b ∷ bs)))))
    (ap (course [] ray_start) out)
out_goes m r (label.Space n) rest found out = absurd out
out_goes m r (label.Element e l) rest found out = absurd out

-- a walk without items that ends at once is the walk of a point that looks out
pub looks_out_walk : (m : Building) (f : Surface) (p : Spot) (found : End) (w : Walk)
    → LooksOut m f p found
    → w.items ≡ [] → w.depth ≡ pos 0 → w.end ≡ found → IsWalk m f p w
looks_out_walk m f p found w l no_items no_depth ends = (
  break_at ray_start l.first ∷ l.rest,
  (
    l.passages,
    subst (λ (c : Course). Goes m (ray_from p f.normal)
        (pieces_of (passages_of (break_at ray_start l.first ∷ l.rest))) c)
        (rw (no_items, no_depth, ends) refl)
        (out_goes m (ray_from p f.normal) l.first l.rest found l.open_end),
  ),
)

-- and no such point is opened
pub looks_out_not_opened : (m : Building) (f : Surface) (p : Spot) (found : End)
    → LooksOut m f p found
    → IsOpened m f p → ⊥
looks_out_not_opened m f p found l o =
    let same = one_list_of_passages (λ depth. label_at m (at_depth (ray_from p f.normal) depth))
    o.breaks (break_at ray_start l.first ∷ l.rest) o.passages l.passages in
    let goes = subst (λ (bs : List (Break Label)).
    Goes m (ray_from p f.normal) (pieces_of (passages_of bs)) o.walk) same o.goes in
    o.has_items (ap (λ (c : Course). c.items)
    (goes_out m (ray_from p f.normal) l.first l.rest found o.walk l.open_end goes))

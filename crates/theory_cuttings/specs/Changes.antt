-- What is done with cuttings: needless breaks dropped, labels mapped and grouped, the line
-- reversed or moved, two cuttings glued, one refined piece by piece, and one restricted to a part of
-- its interval.
use Rattle.std.specs.Prelude.{ℤ, ◌+ℤ◌, ◌*ℤ◌, Bool, if◌then◌else◌, List, [], ◌∷◌, ◌++◌, map}
use Rattle.std.specs.Prelude.{Option, option_map}
use Rattle.theory_numbers.specs.Arrows.{Arrow, arrow, mirror}
use Rattle.theory_numbers.specs.Rationals.{is_below}
use Rattle.theory_cuttings.specs.Cuttings.{Break}

-- the break at this place with this label
abbrev pub break_at : {L : Type 0} → Arrow → L → Break L
break_at start label = record { start = start; label = label }

-- squash: each break whose label is the one before it is dropped
abbrev pub squash : {L : Type 0} → (L → L → Bool) → L → List (Break L) → List (Break L)
squash same first [] = []
squash same first (b ∷ bs) =
    if same first b.label then squash same first bs else b ∷ squash same b.label bs

-- the same breaks, their labels mapped
abbrev pub map_labels : {L K : Type 0} → (L → K) → List (Break L) → List (Break K)
map_labels g bs = map (λ b. break_at b.start (g b.label)) bs

-- a run of breaks: the one it starts with, and those behind it
pub record Run (L : Type 0) : Type 0 where
  pub head : Break L
  pub rest : List (Break L)

-- breaks in runs: those before the first run, and the runs
pub record Grouped (L : Type 0) : Type 0 where
  pub before : List (Break L)
  pub runs : List (Run L)

-- a break is put in front: it goes on with the run before it, or starts one
abbrev pub put_before : {L : Type 0} → Bool → Break L → Grouped L → Grouped L
put_before goes_on b grouped =
    if goes_on
    then record { before = b ∷ grouped.before; runs = grouped.runs }
    else record { before = []; runs = record { head = b; rest = grouped.before } ∷ grouped.runs }

-- group: breaks in runs of one g-label. Those before the first run have the g-label of `first`
abbrev pub group : {L K : Type 0} → (K → K → Bool) → (L → K) → L → List (Break L) → Grouped L
group same g first [] = record { before = []; runs = [] }
group same g first (b ∷ bs) =
    put_before (same (g first) (g b.label)) b (group same g b.label bs)

-- label and start of each run
abbrev pub run_breaks : {L K : Type 0} → (L → K) → List (Run L) → List (Break K)
run_breaks g runs = map (λ run. break_at run.head.start (g run.head.label)) runs

-- the breaks of the runs, in order
abbrev pub in_runs : {L : Type 0} → List (Run L) → List (Break L)
in_runs [] = []
in_runs (run ∷ runs) = (run.head ∷ run.rest) ++ in_runs runs

-- the label on the last piece
abbrev pub last_label : {L : Type 0} → L → List (Break L) → L
last_label first [] = first
last_label first (b ∷ bs) = last_label b.label bs

-- flip: the breaks read backwards in the mirror at 0, in front of those of `behind`
abbrev pub flip_onto : {L : Type 0} → L → List (Break L) → List (Break L) → List (Break L)
flip_onto first [] behind = behind
flip_onto first (b ∷ bs) behind =
    flip_onto b.label bs (break_at (mirror b.start) first ∷ behind)

-- glue: one cutting up to x, and one from x on, where its label is `label`
abbrev pub glue : {L : Type 0} → List (Break L) → Arrow → L → List (Break L) → List (Break L)
glue bs x label rest = bs ++ (break_at x label ∷ rest)

-- cut off: the label just after s
abbrev pub label_after : {L : Type 0} → Arrow → L → List (Break L) → L
label_after s first [] = first
label_after s first (b ∷ bs) = if is_below s b.start then first else label_after s b.label bs

-- the breaks above s
abbrev pub breaks_after : {L : Type 0} → Arrow → List (Break L) → List (Break L)
breaks_after s [] = []
breaks_after s (b ∷ bs) = if is_below s b.start then b ∷ bs else breaks_after s bs

-- the breaks below t
abbrev pub breaks_before : {L : Type 0} → Arrow → List (Break L) → List (Break L)
breaks_before t [] = []
breaks_before t (b ∷ bs) = if is_below b.start t then b ∷ breaks_before t bs else []

-- a piece that is cut itself: its first label, and the breaks inside it
pub record Fine (L : Type 0) : Type 0 where
  pub first : L
  pub rest : List (Break L)

-- refine: the breaks inside the first piece, and then each break with those inside its piece
abbrev pub refined : {L : Type 0} → List (Break L) → List (Break (Fine L)) → List (Break L)
refined inside [] = inside
refined inside (b ∷ bs) = glue inside b.start b.label.first (refined b.label.rest bs)

-- the number x further on
abbrev pub moved_by : ℤ → Arrow → Arrow
moved_by x r = arrow r.x (r.y +ℤ (x *ℤ r.x))

-- an end x further on
abbrev pub moved_end : ℤ → Option Arrow → Option Arrow
moved_end x end = option_map (moved_by x) end

-- the breaks x further on
abbrev pub moved_breaks : {L : Type 0} → ℤ → List (Break L) → List (Break L)
moved_breaks x bs = map (λ b. break_at (moved_by x b.start) b.label) bs

-- Stacks of strips: what a cell more on top changes, and what is laid cell by cell.
use Rattle.std.proofs.Common.{◌≡◌, refl, sym, ◌∙◌, ap, ap₂, ℕ, suc, ◌≤◌, arith, List, []}
use Rattle.std.proofs.Common.{◌∷◌, ◌++◌, map, take, length, get_or, false, if◌then◌else◌}
use Rattle.std.proofs.Common.{Ok, Err, IfOk, OnOk, Result}
use Rattle.std.proofs.Math.Seq.{take-suc}
use Rattle.std.proofs.lemmas.List.{reverse-append, map-append}
use Rattle.theory_joining.specs.Cells.{raised}
use Rattle.sb_model.specs.declared.boundary.Cell.{Cell}
use Rattle.theory_faces.specs.Strips.{Strip, strip_of, strips_of, is_raised_by, lay, runs_over}
use Rattle.theory_faces.specs.Strips.{all_runs, runs_of_calls}
use Rattle.theory_faces.specs.Chains.{lay_before, chains}
use Rattle.sb_join.specs.Stacks.{from_top, lay_all, put_all}

-- strips of two lists of cells
pub strips-append : (xs ys : List Cell) → strips_of (xs ++ ys) ≡ strips_of xs ++ strips_of ys
strips-append [] ys = refl
strips-append (x ∷ xs) ys = ap (λ ps. strip_of x ∷ ps) (strips-append xs ys)

-- a cell more on top
pub top_is : (under : List Cell) (top : Cell)
    → from_top (under ++ top ∷ []) ≡ strip_of top ∷ from_top under
top_is under top = ap strips_of (reverse-append under (top ∷ []))

-- one strip more to be laid
pub lay_all_more : (cs : List Strip) (c : Strip) (above : List Strip)
    → lay_all (cs ++ c ∷ []) above ≡ lay_all cs (lay c above)
lay_all_more [] c above = refl
lay_all_more (b ∷ bs) c above = ap (lay b) (lay_all_more bs c above)

-- laid on nothing they are the runs
pub lay_all-nothing : (cs : List Strip) → lay_all cs [] ≡ runs_over cs
lay_all-nothing [] = refl
lay_all-nothing (c ∷ cs) = ap (lay c) (lay_all-nothing cs)

-- one run more to be put
pub put_all_more : (ps : List Strip) (p : Strip) (after : List Strip)
    → put_all (ps ++ p ∷ []) after ≡ put_all ps (lay_before p after)
put_all_more [] p after = refl
put_all_more (q ∷ qs) p after = ap (lay_before q) (put_all_more qs p after)

-- put on nothing they are the chains
pub put_all-nothing : (ps : List Strip) → put_all ps [] ≡ chains ps
put_all-nothing [] = refl
put_all-nothing (p ∷ ps) = ap (lay_before p) (put_all-nothing ps)

-- one call more
pub all_runs_more : (lists : List (List Strip)) (cs : List Strip)
    → all_runs (lists ++ cs ∷ []) ≡ all_runs lists ++ runs_over cs
all_runs_more [] cs = append_nil (runs_over cs)
  where
    append_nil : (ps : List Strip) → ps ++ [] ≡ ps
    append_nil [] = refl
    append_nil (p ∷ ps) = ap (λ qs. p ∷ qs) (append_nil ps)
all_runs_more (bs ∷ lists) cs =
    ap (λ ps. runs_over bs ++ ps) (all_runs_more lists cs)
    ∙ assoc (runs_over bs) (all_runs lists) (runs_over cs)
  where
    assoc : (xs ys zs : List Strip) → xs ++ (ys ++ zs) ≡ (xs ++ ys) ++ zs
    assoc [] ys zs = refl
    assoc (x ∷ xs) ys zs = ap (λ ps. x ∷ ps) (assoc xs ys zs)

-- ---- the steps of the loops

-- what follows from a clause about an answer that is Ok
pub if_ok : {T E : Type 0} (P Q : T → Type 0) → ((x : T) → P x → Q x) → (r : Result T E) → IfOk r P
    → IfOk r Q
if_ok P Q step (Ok x) holds = step x holds
if_ok P Q step (Err e) holds = tt

pub on_ok : {T E P Q : Type 0} → (P → Q) → (r : Result T E) → OnOk r P → OnOk r Q
on_ok step (Ok x) holds = step holds
on_ok step (Err e) holds = tt

-- a cell that is laid as a run of its own
pub lay_own : (c : Strip) (before under after : List Cell) (top run : Cell)
    → before ≡ under ++ top ∷ [] → is_raised_by c (strip_of top) ≡ false
    → after ≡ (under ++ top ∷ []) ++ run ∷ [] → strip_of run ≡ c
    → from_top after ≡ lay c (from_top before)
lay_own c before under after top run old apart new is =
    ap from_top new ∙ top_is (under ++ top ∷ []) run
    ∙ ap (λ p. p ∷ from_top (under ++ top ∷ [])) is
    ∙ ap (λ ps. c ∷ ps) (top_is under top)
    ∙ sym
    (ap (λ xs. lay c (from_top xs)) old ∙ ap (lay c) (top_is under top)
    ∙ ap
    (λ b. if b then raised c (strip_of top) ∷ from_top under else c ∷ strip_of top ∷ from_top under)
    apart)

-- one cell less is left to be laid
pub lay_step : (cells before after : List Cell) (left less : ℕ) (x : Cell) (runs : List Strip)
    → left ≡ suc less → left ≤ length cells → x ≡ get_or cells less x
    → from_top after ≡ lay (strip_of x) (from_top before)
    → lay_all (strips_of (take left cells)) (from_top before) ≡ runs
    → lay_all (strips_of (take less cells)) (from_top after) ≡ runs
lay_step cells before after left less x runs one within here laid whole =
    ap (lay_all (strips_of (take less cells))) laid
    ∙ sym (lay_all_more (strips_of (take less cells)) (strip_of x) (from_top before))
    ∙ ap (λ cs. lay_all cs (from_top before))
    (sym
    (ap strips_of
    (ap (λ n. take n cells) one ∙ take-suc cells less x (omega arith)
    ∙ ap (λ y. take less cells ++ y ∷ []) (sym here))
    ∙ strips-append (take less cells) (x ∷ [])))
    ∙ whole

-- one run less is left to be put
pub put_step : (runs rest before after : List Cell) (run : Cell) (ps : List Strip)
    → runs ≡ rest ++ run ∷ [] → from_top after ≡ lay_before (strip_of run) (from_top before)
    → put_all (strips_of runs) (from_top before) ≡ ps
    → put_all (strips_of rest) (from_top after) ≡ ps
put_step runs rest before after run ps split put whole =
    ap (put_all (strips_of rest)) put
    ∙ sym (put_all_more (strips_of rest) (strip_of run) (from_top before))
    ∙ ap (λ cs. put_all cs (from_top before))
    (sym (ap strips_of split ∙ strips-append rest (run ∷ [])))
    ∙ whole

-- one call more was taken
pub taken_more : (calls : List (List Cell)) (cells : List Cell) (before own after : List Strip)
    → before ≡ runs_of_calls calls → own ≡ runs_over (strips_of cells) → after ≡ before ++ own
    → after ≡ runs_of_calls (calls ++ cells ∷ [])
taken_more calls cells before own after taken runs more =
    more ∙ ap₂ (λ xs ys. xs ++ ys) taken runs
    ∙ sym
    (ap all_runs (map-append strips_of calls (cells ∷ []))
    ∙ all_runs_more (map strips_of calls) (strips_of cells))

-- The numbers and the lines of one boundary more.

use Rattle.std.proofs.Common.{◌≡◌, refl, sym, ap, ap₂, ◌∙◌, arith, ℕ, zero, suc, ◌+◌, List, [], ◌∷◌, ◌++◌, Some, take}
use Rattle.std.proofs.Common.{slice_get, add-one, append_assoc, map, length, get_or, ◌-◌, ◌≤◌, ◌<◌, Option, None, option_map}
use Rattle.std.specs.List.{range_with_len}
use Rattle.std.proofs.lemmas.List.FromFn.{map-range_with_len_more, get_or-map-range_with_len}
use Rattle.std.proofs.lemmas.List.FromFn.{length-map-range_with_len}
use Rattle.std.proofs.lemmas.List.{append-nil}
use Rattle.std.proofs.lemmas.Option.{same_Some, none-some, slice_get-get_or}
use Rattle.sb_model.specs.declared.boundary.Boundary.{Boundary}
use Rattle.sb_model.specs.Building.{Building}
use Rattle.sb_ifc_out.specs.Numbers.{last_line, line_count}
use Rattle.sb_ifc_out.specs.IfcText.{lines_at, lines_from}

-- where nothing is found there is no such place
nothing_within : (bs : List Boundary) (i : ℕ) → slice_get bs i ≡ None → i < length bs → ⊥
nothing_within [] i none within = omega (arith, within)
nothing_within (b ∷ bs) zero none within = none-some b (sym none)
nothing_within (b ∷ bs) (suc i) none within = nothing_within bs i none (omega (arith, within))

last_of_more : (m : Building) (before : ℕ) (bs : List Boundary) (i : ℕ) (b : Boundary)
    → slice_get bs i ≡ Some b
    → last_line m before bs (suc i) ≡ last_line m before bs i + line_count m b
last_of_more m before [] i b here = absurd (cc)
last_of_more m before (c ∷ bs) zero b here =
    ap (λ (x : Boundary). before + line_count m x) (same_Some c b here)
last_of_more m before (c ∷ bs) (suc i) b here =
    last_of_more m (before + line_count m c) bs i b here

-- the last line of one boundary more
pub last_line_more : (m : Building) (before : ℕ) (bs : List Boundary) (i : ℕ) (b : Boundary)
    → slice_get bs i ≡ Some b
    → last_line m before bs (i + 1) ≡ last_line m before bs i + line_count m b
last_line_more m before bs i b here =
    ap (last_line m before bs) (add-one i) ∙ last_of_more m before bs i b here

lines_of_more : (m : Building) (f : ℕ → ℕ) (before id : ℕ) (bs : List Boundary) (i : ℕ) (b : Boundary)
    → slice_get bs i ≡ Some b
    → lines_from m f before id (take (suc i) bs)
    ≡ lines_from m f before id (take i bs) ++ lines_at m f (last_line m before bs i) (id + i) b
lines_of_more m f before id [] i b here = absurd (cc)
lines_of_more m f before id (c ∷ bs) zero b here =
    let same : c ≡ b = same_Some c b here in
    let start : id + 0 ≡ id = omega arith in
    rw (same, start) (append-nil (lines_at m f before id b))
lines_of_more m f before id (c ∷ bs) (suc i) b here =
    let next : id + suc i ≡ (id + 1) + i = omega arith in
    rw next
    (ap (λ t. lines_at m f before id c ++ t) (lines_of_more m f (before + line_count m c) (id + 1) bs i b here)
    ∙ sym (append_assoc (lines_at m f before id c)
    (lines_from m f (before + line_count m c) (id + 1) (take i bs))
    (lines_at m f (last_line m (before + line_count m c) bs i) (id + 1 + i) b)))

-- the lines of the boundaries up to place i, and of the one there
pub lines_more : (m : Building) (f : ℕ → ℕ) (before id : ℕ) (bs : List Boundary) (i : ℕ) (b : Boundary)
    → slice_get bs i ≡ Some b
    → lines_from m f before id (take (i + 1) bs)
    ≡ lines_from m f before id (take i bs) ++ lines_at m f (last_line m before bs i) (id + i) b
lines_more m f before id bs i b here =
    ap (λ n. lines_from m f before id (take n bs)) (add-one i) ∙ lines_of_more m f before id bs i b here

-- one relation more in the table, and the last line at hand
pub one_more_relation : (m : Building) (greatest : ℕ) (bs : List Boundary) (i : ℕ) (b : Boundary)
    (list more : List ℕ) (last count next : ℕ) → slice_get bs i ≡ Some b → count ≡ line_count m b
    → list ≡ map (last_line m greatest bs) (range_with_len 1 i) → last ≡ last_line m greatest bs i
    → next ≡ last + count → more ≡ list ++ next ∷ []
    → (more ≡ map (last_line m greatest bs) (range_with_len 1 (i + 1)))
    × (next ≡ last_line m greatest bs (i + 1))
one_more_relation m greatest bs i b list more last count next here count_is list_is last_is next_is more_is =
    let reached : next ≡ last_line m greatest bs (i + 1) =
    next_is ∙ ap₂ (λ k n. k + n) last_is count_is ∙ sym (last_line_more m greatest bs i b here) in (
      more_is ∙ ap₂ (λ xs n. xs ++ n ∷ []) list_is reached
          ∙ sym (map-range_with_len_more (last_line m greatest bs) 1 i (i + 1) (omega arith)),
      reached,
    )

-- the line that a table has for an id
pub line_of_id : (f : ℕ → ℕ) (table : List ℕ) (id : ℕ)
    → table ≡ map f (range_with_len 1 (length table)) → 1 ≤ id → id ≤ length table
    → get_or table (id - 1) 0 ≡ f id
line_of_id f table id is some few =
    ap (λ t. get_or t (id - 1) 0) is
    ∙ get_or-map-range_with_len f 1 (length table) (id - 1) id 0 (omega (arith, some, few)) (omega (arith, some))

-- how long a table of a list is
pub length_of_table : (f : ℕ → ℕ) (n : ℕ) (table : List ℕ) → table ≡ map f (range_with_len 1 n)
    → length table ≡ n
length_of_table f n table is = ap length is ∙ length-map-range_with_len f 1 n

-- the line that a table has at a place
pub line_at_place : (f : ℕ → ℕ) (n : ℕ) (table : List ℕ) (i : ℕ) → table ≡ map f (range_with_len 1 n)
    → i < n → get_or table i 0 ≡ f (i + 1)
line_at_place f n table i is within =
    ap (λ t. get_or t i 0) is ∙ get_or-map-range_with_len f 1 n i (i + 1) 0 within (omega arith)

found_line : (m : Building) (greatest : ℕ) (bs : List Boundary) (i : ℕ) (line : Option ℕ)
    (found : Option Boundary) → slice_get bs i ≡ found
    → ((b : Boundary) → found ≡ Some b → line ≡ Some (last_line m greatest bs (i + 1)))
    → (found ≡ None → line ≡ None)
    → line ≡ option_map (λ (b : Boundary). last_line m greatest bs i + line_count m b) found
found_line m greatest bs i line None here some none = none refl
found_line m greatest bs i line (Some b) here some none =
    some b refl ∙ ap Some (last_line_more m greatest bs i b here)

-- it is that of the boundary there
pub line_found : (m : Building) (greatest : ℕ) (bs : List Boundary) (table : List ℕ) (i before : ℕ)
    → table ≡ map (last_line m greatest bs) (range_with_len 1 (length bs)) → i < length bs
    → before ≡ last_line m greatest bs i
    → slice_get table i ≡ option_map (λ (b : Boundary). before + line_count m b) (slice_get bs i)
line_found m greatest bs table i before is within before_is =
    let long = length_of_table (last_line m greatest bs) (length bs) table is in
    let there : slice_get table i ≡ Some (last_line m greatest bs (i + 1)) =
    slice_get-get_or table i 0 (omega (arith, within, long))
    ∙ ap Some (line_at_place (last_line m greatest bs) (length bs) table i is within) in
    rw before_is
    (found_line m greatest bs i (slice_get table i) (slice_get bs i) refl (λ b here. there)
    (λ none. absurd (nothing_within bs i none within)))

one_more_boundary : (m : Building) (f : ℕ → ℕ) (greatest : ℕ) (bs : List Boundary) (i : ℕ)
    (b : Boundary) (start text more : List ℕ) (before : ℕ) → slice_get bs i ≡ Some b
    → text ≡ start ++ lines_from m f greatest 1 (take i bs) → before ≡ last_line m greatest bs i
    → more ≡ text ++ lines_at m f before (i + 1) b
    → more ≡ start ++ lines_from m f greatest 1 (take (i + 1) bs)
one_more_boundary m f greatest bs i b start text more before here text_is before_is more_is =
    let next : i + 1 ≡ 1 + i = omega arith in
    more_is
    ∙ ap₂ (λ t k. t ++ lines_at m f k (i + 1) b) text_is before_is
    ∙ append_assoc start (lines_from m f greatest 1 (take i bs))
    (lines_at m f (last_line m greatest bs i) (i + 1) b)
    ∙ ap (λ k. start ++ (lines_from m f greatest 1 (take i bs) ++ lines_at m f (last_line m greatest bs i) k b)) next
    ∙ ap (λ t. start ++ t) (sym (lines_more m f greatest 1 bs i b here))

by_found : (m : Building) (f : ℕ → ℕ) (greatest : ℕ) (bs : List Boundary) (i : ℕ)
    (found : Option Boundary) (start text more : List ℕ) (before : ℕ) → slice_get bs i ≡ found
    → text ≡ start ++ lines_from m f greatest 1 (take i bs) → before ≡ last_line m greatest bs i
    → Some more ≡ option_map (λ (b : Boundary). text ++ lines_at m f before (i + 1) b) found
    → more ≡ start ++ lines_from m f greatest 1 (take (i + 1) bs)
by_found m f greatest bs i None start text more before here text_is before_is more_is =
    absurd (none-some more (sym more_is))
by_found m f greatest bs i (Some b) start text more before here text_is before_is more_is =
    one_more_boundary m f greatest bs i b start text more before here text_is before_is
    (same_Some more (text ++ lines_at m f before (i + 1) b) more_is)

-- the lines of one boundary more
pub one_more_at : (m : Building) (f : ℕ → ℕ) (greatest : ℕ) (bs : List Boundary) (i : ℕ)
    (start text more : List ℕ) (before : ℕ)
    → text ≡ start ++ lines_from m f greatest 1 (take i bs) → before ≡ last_line m greatest bs i
    → Some more
    ≡ option_map (λ (b : Boundary). text ++ lines_at m f before (i + 1) b) (slice_get bs i)
    → more ≡ start ++ lines_from m f greatest 1 (take (i + 1) bs)
one_more_at m f greatest bs i start text more before text_is before_is more_is =
    by_found m f greatest bs i (slice_get bs i) start text more before refl text_is before_is more_is

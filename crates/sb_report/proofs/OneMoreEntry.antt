-- The entries are those of the boundaries in order: one boundary more adds its entry at the end.

use Rattle.std.proofs.Common.{◌≡◌, ℕ, zero, suc, ◌+◌, List, [], ◌∷◌, ◌++◌, take, Some, option_map}
use Rattle.std.proofs.Common.{slice_get, refl, ap, ◌∙◌, arith, add-one}
use Rattle.serde_json.specs.Data.{Data}
use Rattle.sb_model.specs.declared.boundary.Boundary.{Boundary}
use Rattle.sb_model.specs.Building.{Building}
use Rattle.sb_report.specs.Entries.{boundary_data}
use Rattle.sb_report.specs.Report.{entries_from}

entries_of_more : (m : Building) (id : ℕ) (bs : List Boundary) (i : ℕ) (d : Data)
    → Some d ≡ option_map (boundary_data m (id + i)) (slice_get bs i)
    → entries_from m id (take (suc i) bs) ≡ entries_from m id (take i bs) ++ d ∷ []
entries_of_more m id [] i d here = absurd (cc)
entries_of_more m id (b ∷ bs) zero d here =
    let same : d ≡ boundary_data m (id + 0) b = cc in
    let start : id + 0 ≡ id = omega arith in
    rw (same, start) refl
entries_of_more m id (b ∷ bs) (suc i) d here =
    let next : id + suc i ≡ (id + 1) + i = omega arith in
    let later : Some d ≡ option_map (boundary_data m ((id + 1) + i)) (slice_get bs i) =
    rw next at here in
    ap (λ ds. boundary_data m id b ∷ ds) (entries_of_more m (id + 1) bs i d later)

-- the entries of the boundaries up to place i, and of the one there
pub entries_more : (m : Building) (bs : List Boundary) (i : ℕ) (d : Data)
    → Some d ≡ option_map (boundary_data m (i + 1)) (slice_get bs i)
    → entries_from m 1 (take (i + 1) bs) ≡ entries_from m 1 (take i bs) ++ d ∷ []
entries_more m bs i d here =
    let same : i + 1 ≡ 1 + i = omega arith in
    let from_one : Some d ≡ option_map (boundary_data m (1 + i)) (slice_get bs i) =
    rw same at here in
    ap (λ n. entries_from m 1 (take n bs)) (add-one i) ∙ entries_of_more m 1 bs i d from_one

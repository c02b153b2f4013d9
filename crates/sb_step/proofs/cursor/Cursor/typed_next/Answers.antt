use Rattle.std.proofs.Common.{◌≡◌, Option, Some, None, IfSome, slice_get, refl, sym, subst}
use Rattle.sb_step.specs.Cursors.Cursor.{AreLeft}
use Rattle.sb_step.specs.Cursors.Forms.{IsTyped}
use Rattle.sb_step.proofs.cursor.Cursor.typed_next.Goals as goal

-- where no value is so, there is none
none_where_never : {T : Type 0} (P : T → Type 0) (r : Option T) → IfSome r P
    → ((x : T) → P x → ⊥) → r ≡ None
none_where_never P None is never = refl
none_where_never P (Some x) is never = absurd (never x is)

pub returns-in-Some-clause-none : goal.returns-in-Some-clause-none
returns-in-Some-clause-none c =
    let place = c.self.inside.place in
    let stands = subst (λ n. AreLeft place.bytes.now n place.left.0) c.in-Some.is
    c.self.invariant in (
      λ none name ps is. c.typed_of.ensures.none place.left.0 ps name stands none
          (subst (λ l. IsTyped (slice_get l 0) name ps) (sym c.self.view_is) is),
      λ never. none_where_never
          (λ t. IsTyped (slice_get place.left.0 0) t.keyword.now t.inner)
          c.typed_of.result (c.typed_of.ensures.some place.left.0 stands)
          (λ t is. never t.keyword.now t.inner
          (subst (λ l. IsTyped (slice_get l 0) t.keyword.now t.inner) c.self.view_is is)),
    )

-- Coarse labels: what is at a point, without the layer.
use Rattle.std.specs.Prelude.{◌==◌, Bool, true, false, ◌&&◌, Option, Some, None, ⊤}
use Rattle.sb_model.specs.declared.labels.label.Label.{Label}
use Rattle.sb_model.specs.declared.labels.label.Label.TheVariants as label
use Rattle.sb_model.specs.declared.products.Space.{Space}
use Rattle.sb_model.specs.declared.products.Element.{Element}
use Rattle.sb_model.specs.Building.{Building}
use Rattle.sb_model.specs.Labels.{lowest}

-- the label without its layer
abbrev pub coarse : Label → Label
coarse (label.Space n) = label.Space n
coarse (label.Element n layer) = label.Element n 0
coarse label.Earth = label.Earth
coarse label.Void = label.Void

-- two labels are equal
abbrev pub same_label : Label → Label → Bool
same_label (label.Space n) (label.Space k) = n == k
same_label (label.Element n layer) (label.Element k other) = n == k && layer == other
same_label label.Earth label.Earth = true
same_label label.Void label.Void = true
same_label _ _ = false

-- earth or air: what is where no product is
abbrev pub IsOpen : Label → Type 0
IsOpen label.Earth = ⊤
IsOpen label.Void = ⊤
IsOpen (label.Space n) = ⊥
IsOpen (label.Element n layer) = ⊥

-- the element if there is one
abbrev pub element_or : Label → Option Element → Label
element_or bare None = bare
element_or bare (Some e) = label.Element e.number 0

-- the space if there is one
abbrev pub space_or : Label → Option Space → Label
space_or other None = other
space_or other (Some s) = label.Space s.number

-- the coarse label where these spaces and elements stand, else over bare ground or under it: the
-- lowest-numbered space, else the lowest-numbered element, else what is bare
abbrev pub stacked : Building → (Space → Bool) → (Element → Bool) → Label → Label
stacked m in_space in_element bare =
    space_or (element_or bare (lowest (λ e. e.number) in_element m.elements))
    (lowest (λ s. s.number) in_space m.spaces)

-- what a line runs through: spaces, elements, and the ground, behind which it is
pub data Standing : Type 0 where
  the_space : Space → Standing
  the_element : Element → Standing
  the_ground : Standing

-- the coarse label by what is present, where `bare` says what is before the ground and behind it
abbrev pub label_of_present : Building → (Bool → Label) → (Standing → Bool) → Label
label_of_present m bare is_present =
    stacked m (λ s. is_present (the_space s)) (λ e. is_present (the_element e))
    (bare (is_present the_ground))

use Rattle.std.proofs.Common.{◌≡◌, ◌∙◌, ◌∷◌, [], List, ap, map, refl, sym}
use Rattle.tp_views.specs.Maps.{Maps, Row, read_map, rows_read}
use Rattle.tp_views.proofs.node_maps.read_maps.Goals as goal

-- a list that is mapped twice
twice : {X Y Z : Type 0} (f : Y → Z) (g : X → Y) (xs : List X) → map (λ x. f (g x)) xs ≡ map f (map g xs)
twice f g [] = refl
twice f g (x ∷ xs) = ap (λ ys. f (g x) ∷ ys) (twice f g xs)

both : (own other : List (List Row)) (all rest : List Row) → own ≡ other → all ≡ rest
    → let left : Maps = record { own = own; all = all } in let right : Maps = record { own = other; all = rest } in left ≡ right
both own other all rest p q = λ i. record { own = p i; all = q i }

pub returns-clause-maps : goal.returns-clause-maps
returns-clause-maps c =
    both _ _ _ _ (c.in_ok-read_own.ensures.own ∙ twice (λ text. rows_read (read_map text)) (λ text. text.items) c.args.own.now) (sym (ap rows_read c.in_ok-read_rows.ensures.ok))

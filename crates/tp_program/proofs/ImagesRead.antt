-- What is read for the images of nodes, one after the other.
use Rattle.std.proofs.Common.{◌≡◌, ◌∙◌, ℕ, ◌+◌, ◌<◌, List, [], ◌∷◌, ◌++◌, length, get_or, map, take, append_assoc, refl, sym, ap, arith}
use Rattle.std.proofs.lemmas.List.{length-map, length-take-le, map_more, map_push}
use Rattle.tp_program.specs.Devices.{DeviceCall, Reads}
use Rattle.tp_program.specs.Uses.{image_of, images_read}

-- one more is read after the others
images_read-snoc : (folder : List ℕ) (names images : List (List ℕ)) (name image : List ℕ) → length images ≡ length names
    → images_read folder (names ++ name ∷ []) (images ++ image ∷ []) ≡ images_read folder names images ++ Reads (image_of folder name) image ∷ []
images_read-snoc folder [] [] name image same = refl
images_read-snoc folder [] (i ∷ images) name image same = absurd (omega (arith, same))
images_read-snoc folder (n ∷ names) [] name image same = absurd (omega (arith, same))
images_read-snoc folder (n ∷ names) (i ∷ images) name image same =
    ap (λ calls. Reads (image_of folder n) i ∷ calls) (images_read-snoc folder names images name image (omega (arith, same)))

-- the same for the image of the next name
images_read-more : {A B : Type 0} (f : A → List ℕ) (g : B → List ℕ) (folder : List ℕ) (names : List A) (images : List B) (i : ℕ) (d : A) (image : B)
    → i < length names → length images ≡ i
    → images_read folder (map f (take (i + 1) names)) (map g (images ++ image ∷ [])) ≡ images_read folder (map f (take i names)) (map g images) ++ Reads (image_of folder (f (get_or names i d))) (g image) ∷ []
images_read-more f g folder names images i d image lt all =
    let front = take i names in
    let name = f (get_or names i d) in
    let same : length (map g images) ≡ length (map f front) = length-map images g ∙ all ∙ sym (length-map front f ∙ length-take-le i names (omega (arith, lt))) in
    ap (λ ns. images_read folder ns (map g (images ++ image ∷ []))) (map_more f names i d lt) ∙ ap (λ read. images_read folder (map f front ++ name ∷ []) read) (map_push g images image)
    ∙ images_read-snoc folder (map f front) (map g images) name (g image) same

-- after other calls, once that image is among them
pub read_more : {A B : Type 0} (f : A → List ℕ) (g : B → List ℕ) (folder : List ℕ) (names : List A) (images now : List B) (i : ℕ) (d : A) (image : B) (old mid new : List DeviceCall)
    → i < length names → length images ≡ i → now ≡ images ++ image ∷ [] → mid ≡ old ++ images_read folder (map f (take i names)) (map g images)
    → new ≡ mid ++ Reads (image_of folder (f (get_or names i d))) (g image) ∷ [] → new ≡ old ++ images_read folder (map f (take (i + 1) names)) (map g now)
read_more f g folder names images now i d image old mid new lt all pushed before then =
    let read = Reads (image_of folder (f (get_or names i d))) (g image) ∷ [] in
    then ∙ ap (λ calls. calls ++ read) before ∙ append_assoc old (images_read folder (map f (take i names)) (map g images)) read
    ∙ ap (λ calls. old ++ calls) (sym (ap (λ list. images_read folder (map f (take (i + 1) names)) (map g list)) pushed ∙ images_read-more f g folder names images i d image lt all))

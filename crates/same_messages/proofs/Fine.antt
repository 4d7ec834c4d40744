-- Marks one after the other are fine where each part is.
use Rattle.std.proofs.Common.{List, [], ◌∷◌, ◌++◌}
use Rattle.wire_model.specs.Marks.{Mark, Test, Object, Handle, Id}
use Rattle.wire_model.specs.Stands.{IsFine}

pub fine_left : (xs ys : List Mark) → IsFine (xs ++ ys) → IsFine xs
fine_left [] ys h = tt
fine_left (Test b k at ∷ xs) ys h = (h.0, fine_left xs ys h.1)
fine_left (Object s z e f k ∷ xs) ys h = (h.0, (h.1.0, fine_left xs ys h.1.1))
fine_left (Handle i at ∷ xs) ys h = fine_left xs ys h
fine_left (Id i at ∷ xs) ys h = fine_left xs ys h

pub fine_right : (xs ys : List Mark) → IsFine (xs ++ ys) → IsFine ys
fine_right [] ys h = h
fine_right (Test b k at ∷ xs) ys h = fine_right xs ys h.1
fine_right (Object s z e f k ∷ xs) ys h = fine_right xs ys h.1.1
fine_right (Handle i at ∷ xs) ys h = fine_right xs ys h
fine_right (Id i at ∷ xs) ys h = fine_right xs ys h

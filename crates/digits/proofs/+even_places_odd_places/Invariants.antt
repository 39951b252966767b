-- The word falls by half with each call.
use Rattle.digits.proofs.+even_places_odd_places.Given as goal

abbrev pub decreases-even_places : goal.decreases-even_places
decreases-even_places l = l.word

abbrev pub decreases-odd_places : goal.decreases-odd_places
decreases-odd_places l = l.word

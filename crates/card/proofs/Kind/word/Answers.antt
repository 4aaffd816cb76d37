-- `card::Kind::word` meets its contract: each kind's word. Assumes nothing.
use Rattle.card.proofs.Kind.word.Goals as goal

pub returns-in-Pixel : goal.returns-in-Pixel
returns-in-Pixel c = rw c.in-Pixel.is

pub returns-in-Vertex : goal.returns-in-Vertex
returns-in-Vertex c = rw c.in-Vertex.is

pub returns-in-Geometry : goal.returns-in-Geometry
returns-in-Geometry c = rw c.in-Geometry.is

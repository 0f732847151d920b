-- Laws of paths, of exchanges of arcs, and of trees as a program reads them. Assumes nothing.
pub mod PathLaws
pub mod ExchangeLaws
pub mod TreeLaws

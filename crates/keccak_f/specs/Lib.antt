pub mod KeccakF

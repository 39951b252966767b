pub mod Previewed
mod PreviewCall
